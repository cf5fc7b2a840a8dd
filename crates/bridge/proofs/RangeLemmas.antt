-- The ranges of the tokens of a text, token by token.
use Rattle.std.proofs.Common.{◌≡◌, ℕ, ◌+◌, ◌≤◌, List, [], ◌∷◌, ◌++◌, length, take, drop, refl, sym, ap, ◌∙◌, arith, chars}
use Rattle.std.proofs.lemmas.List.{length-drop, length-take-le, map-append}
use Rattle.std.proofs.lemmas.List.Sums.{sum_by-cons}
use Rattle.std.specs.Prelude.{map, sum_by}
use Rattle.rustc_lexer.specs.Lexing.{tokens_of}
use Rattle.rustc_lexer.specs.declared.token.Token.{Token}
use Rattle.tt_data.specs.Forest.{Forest}
use Rattle.tt_data.specs.Walk.{Step, walk}
use Rattle.bridge.specs.Printing.{step_span}
use Rattle.bridge.specs.PrintedRanges.{range_of_step, read_ranges}
use Rattle.bridge.specs.TokenShares.{share_of, shared_ranges, token_ranges_from}
use Rattle.bridge.specs.Reading.{IsReading, PlacedToken, placed_from, step}
use Rattle.bridge.specs.TokenSteps.{class_of, steps_of, steps_of_class, text_steps}
use Rattle.bridge.proofs.ShareLemmas.{kind_ranges}

abbrev pub total : List Token → ℕ
total = sum_by (λ t. t.len)

-- tokens that fit into the bytes after an offset give the ranges of what they are read as
pub placed_ranges : (at : ℕ) (text : List ℕ) (ts : List Token) → total ts ≤ length text → map range_of_step (steps_of (placed_from at text ts)) ≡ token_ranges_from at ts
placed_ranges at text [] fits = refl
placed_ranges at text (t ∷ more) fits =
    let split : total (t ∷ more) ≡ t.len + total more = sum_by-cons (λ (t : Token). t.len) t more in
    let enough : t.len ≤ length text = omega (arith, fits, split) in
    let rest : total more ≤ length (drop t.len text) = omega (arith, fits, split, length-drop t.len text) in
    let here : PlacedToken = record { kind = t.kind; start = at; text = take t.len text } in
    let after : List PlacedToken = placed_from (at + t.len) (drop t.len text) more in
    map-append range_of_step (steps_of_class (class_of t.kind) here after) (steps_of after)
    ∙ ap (λ rs. rs ++ map range_of_step (steps_of after))
    (kind_ranges t.kind here after
    ∙ ap (λ n. shared_ranges (share_of t.kind) (record { start = at; «end» = at + n })) (length-take-le t.len text enough))
    ∙ ap (λ rs. shared_ranges (share_of t.kind) (record { start = at; «end» = at + t.len }) ++ rs) (placed_ranges (at + t.len) (drop t.len text) more rest)

-- so do all tokens of a text
pub text_ranges : (text : List ℕ) → total (tokens_of (chars text)) ≡ length text → token_ranges_from 0 (tokens_of (chars text)) ≡ read_ranges text
text_ranges text whole = sym (placed_ranges 0 text (tokens_of (chars text)) (let all : total (tokens_of (chars text)) ≤ length text = omega (arith, whole) in all))

steps_ranges : (steps : List Step) → map range_of_step (map step steps) ≡ map (λ s. (step_span s).range) steps
steps_ranges [] = refl
steps_ranges (s ∷ more) = ap (λ rs. (step_span s).range ∷ rs) (steps_ranges more)

pub ranges_of_reading : (text : List ℕ) (f : Forest) → IsReading (text_steps text) f → read_ranges text ≡ map (λ s. (step_span s).range) (walk f)
ranges_of_reading text f reading = ap (map range_of_step) reading ∙ steps_ranges (walk f)
