-- Each part of a list is one attribute, and each `cfg_attr` one level.
use Rattle.std.proofs.Common.{◌≡◌, ◌∙◌, ◌<◌, ◌-◌, Bool, true, false, Option, None, ap, sym, subst, arith}
use Rattle.std.specs.Prelude.{if◌then◌else◌, unwrap_or}
use Rattle.std.proofs.lemmas.Result.{IfOk-weaker}
use Rattle.cfg_options.proofs.PartLemmas.{less_after}
use Rattle.cfg_options.specs.Conditions.{after_part, cut_at_commas, first_part, predicate_value}
use Rattle.cfg_options.specs.Options.{options_of}
use Rattle.cfg_options.specs.Strings.{string_text}
use Rattle.tt_data.specs.Forest.{Forest, empty, size}
use Rattle.crate_items.proofs.AttributeLemmas.{behind_first, next_level, no_level, part_found, part_passed}
use Rattle.crate_items.proofs.ImportLemmas.{some_tree}
use Rattle.crate_items.specs.Attributes.{first_found, found_by, found_in}
use Rattle.crate_items.proofs.attributes.+attributes.Goals as goal

pub found_among-returns-in-Some : goal.found_among-returns-in-Some
found_among-returns-in-Some t c =
    let find = found_in (options_of c.args.options.now) c.args.word.now c.args.levels in
    let rest = c.loop-rest.rest in
    sym (part_found find rest c.in-Some.found
    (some_tree c.is_empty.result rest c.is_empty.ensures c.loop-rest-test.true)
    (ap find (sym c.split_part-part.ensures.part) ∙ (sym c.in_ok-found.ensures ∙ c.in-Some.is)))
    ∙ c.loop-rest.invariant

pub found_among-loop-rest-smaller : goal.found_among-loop-rest-smaller
found_among-loop-rest-smaller t c =
    subst (λ (x : Forest). size x < size c.loop-rest.rest) (sym c.split_part-part.ensures.rest)
    (less_after c.loop-rest.rest (some_tree c.is_empty.result c.loop-rest.rest c.is_empty.ensures c.loop-rest-test.true))

pub found_among-loop-rest-preserved : goal.found_among-loop-rest-preserved
found_among-loop-rest-preserved t c =
    let find = found_in (options_of c.args.options.now) c.args.word.now c.args.levels in
    let rest = c.loop-rest.rest in
    ap (λ (f : Forest). first_found find (cut_at_commas f empty)) c.split_part-part.ensures.rest
    ∙ (sym (part_passed find rest
    (some_tree c.is_empty.result rest c.is_empty.ensures c.loop-rest-test.true)
    (ap find (sym c.split_part-part.ensures.part) ∙ (sym c.in_ok-found.ensures ∙ c.in_default.is)))
    ∙ c.loop-rest.invariant)

-- what the predicate decides
decided : (b test : Bool) (x y : Option Forest) → test ≡ b → (if test then x else y) ≡ (if b then x else y)
decided b test x y e = ap (λ (a : Bool). if a then x else y) e

pub found_behind-returns-then-unwrap_or : goal.found_behind-returns-then-unwrap_or
found_behind-returns-then-unwrap_or t c =
    let o = options_of c.args.options.now in
    let find = found_in o c.args.word.now c.args.levels in
    let list = c.args.list.now in
    let test : unwrap_or (predicate_value o string_text (first_part list)) false ≡ true =
    ap (λ (f : Forest). unwrap_or (predicate_value o string_text f) false) (sym c.split_part-predicate.ensures.part)
    ∙ (ap (λ (v : Option Bool). unwrap_or v false) (sym c.in_ok-predicate_value.ensures)
    ∙ (sym c.unwrap_or.ensures ∙ c.if-unwrap_or.true)) in
    let same = ap (λ (f : Forest). first_found find (cut_at_commas f empty)) c.split_part-predicate.ensures.rest
    ∙ (sym (decided true _ (first_found find (cut_at_commas (after_part list) empty)) None test)
    ∙ sym (behind_first o c.args.word.now find list (some_tree c.is_empty.result list c.is_empty.ensures c.if-is_empty.false))) in
    IfOk-weaker c.found_among.result _ _ (λ r h. h ∙ same) c.found_among.ensures

pub found_behind-returns-else-unwrap_or : goal.found_behind-returns-else-unwrap_or
found_behind-returns-else-unwrap_or t c =
    let o = options_of c.args.options.now in
    let find = found_in o c.args.word.now c.args.levels in
    let list = c.args.list.now in
    let test : unwrap_or (predicate_value o string_text (first_part list)) false ≡ false =
    ap (λ (f : Forest). unwrap_or (predicate_value o string_text f) false) (sym c.split_part-predicate.ensures.part)
    ∙ (ap (λ (v : Option Bool). unwrap_or v false) (sym c.in_ok-predicate_value.ensures)
    ∙ (sym c.unwrap_or.ensures ∙ c.if-unwrap_or.false)) in
    sym (behind_first o c.args.word.now find list (some_tree c.is_empty.result list c.is_empty.ensures c.if-is_empty.false)
    ∙ decided false _ (first_found find (cut_at_commas (after_part list) empty)) None test)

pub found_in-returns-then-levels-eq0 : goal.found_in-returns-then-levels-eq0
found_in-returns-then-levels-eq0 t c =
    sym (no_level (options_of c.args.options.now) c.args.word.now c.args.levels c.args.attribute.now c.if-levels-eq0.true)

pub found_in-returns-in-Some : goal.found_in-returns-in-Some
found_in-returns-in-Some t c =
    let o = options_of c.args.options.now in
    let find = found_in o c.args.word.now (c.args.levels - 1) in
    let same =
    sym (next_level o c.args.word.now c.args.levels c.args.attribute.now (omega (arith, c.if-levels-eq0.false))
    ∙ ap (λ (l : Option Forest). found_by o c.args.word.now find c.args.attribute.now l) (sym c.conditional.ensures ∙ c.in-Some.is)) in
    IfOk-weaker c.found_behind.result _ _ (λ r h. h ∙ same) c.found_behind.ensures

pub found_in-returns-in-None : goal.found_in-returns-in-None
found_in-returns-in-None t c =
    let o = options_of c.args.options.now in
    let find = found_in o c.args.word.now (c.args.levels - 1) in
    c.named.ensures
    ∙ sym (next_level o c.args.word.now c.args.levels c.args.attribute.now (omega (arith, c.if-levels-eq0.false))
    ∙ ap (λ (l : Option Forest). found_by o c.args.word.now find c.args.attribute.now l) (sym c.conditional.ensures ∙ c.in-None.is))
