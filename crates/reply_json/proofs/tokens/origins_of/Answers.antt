use Rattle.std.proofs.Common.{◌≡◌, ◌≤◌, ◌<◌, ◌+◌, ◌∙◌, ◌++◌, ◌∷◌, [], ap, append-nil, arith, drop, length, map, refl, sym}
use Rattle.std.proofs.lemmas.List.{drop_all}
use Rattle.std.proofs.lemmas.Option.{slice_get_within}
use Rattle.serde_json.specs.Data.{array}
use Rattle.serde_json.specs.View.{items_of, view}
use Rattle.serde_json.proofs.Views.{view-Array}
use Rattle.call_json.specs.Places.{count}
use Rattle.reply_json.specs.Lines.{origin_numbers}
use Rattle.reply_json.proofs.ListLemmas.{behind_three, left_at, none_left}
use Rattle.reply_json.proofs.tokens.origins_of.Goals as goal

pub loop-i-preserved : goal.loop-i-preserved
loop-i-preserved c =
    let i = c.loop-i.i in
    let texts = c.args.expansion.now.texts in
    let origins = c.args.expansion.now.origins in
    let o = c.in-Some.origin in
    let before = map view c.loop-i.list.items in
    let rest = map count (origin_numbers (drop (i + 1) texts) (drop (i + 1) origins)) in
    let is_text = left_at texts i o.text (sym c.in-Some.ensures.text) in
    let is_range = left_at origins i o.range (sym c.in-Some.ensures.range) in
    let within : i < length origins =
    slice_get_within origins i o.range (sym c.in-Some.ensures.range) in
    let pushed = c.in_ok-push_number-3.ensures
    ∙ ap (λ xs. xs ++ count o.range.«end» ∷ []) (c.in_ok-push_number-2.ensures
    ∙ ap (λ xs. xs ++ count o.range.start ∷ []) c.in_ok-push_number.ensures) in
    let split : before ++ map count (origin_numbers (drop i texts) (drop i origins))
    ≡ before ++ count o.text ∷ count o.range.start ∷ count o.range.«end» ∷ rest =
    rw (is_text, is_range) refl in
    record {
      so_far = omega (arith, within);
      all = ap (λ xs. xs ++ rest) pushed
          ∙ behind_three before (count o.text) (count o.range.start) (count o.range.«end») rest
          ∙ sym split ∙ c.loop-i.invariant.all;
    }

pub returns : goal.returns
returns c =
    let i = c.loop-i.i in
    let texts = c.args.expansion.now.texts in
    let origins = c.args.expansion.now.origins in
    let all_told = map view c.loop-i.list.items in
    let past : length origins ≤ i = omega (arith, c.loop-i-test.false, c.tokens-tokens.ensures) in
    let none = ap (origin_numbers (drop i texts)) (drop_all i origins past)
    ∙ none_left (drop i texts) in
    view-Array c.loop-i.list
    ∙ ap (λ xs. array (items_of xs)) (sym (append-nil all_told)
    ∙ ap (λ xs. all_told ++ map count xs) (sym none) ∙ c.loop-i.invariant.all)
