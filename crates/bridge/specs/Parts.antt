-- Parts of a text: what some tokens are read as, before those that follow, and with which spans.
use Rattle.std.specs.Prelude.{ℕ, ◌+◌, List, [], ◌∷◌, ◌++◌, Bool, false, take, drop}
use Rattle.rustc_lexer.specs.declared.token.Token.{Token}
use Rattle.tt_data.specs.declared.span.Span.{Span}
use Rattle.bridge.specs.Reading.{PlacedToken, TextStep, placed_from}
use Rattle.bridge.specs.TokenSteps.{is_mark, class_of, steps_of_class}

-- what tokens are read as, before those that follow
abbrev pub steps_before : List PlacedToken → List PlacedToken → List TextStep
steps_before [] after = []
steps_before (t ∷ more) after = steps_of_class (class_of t.kind) t (more ++ after) ++ steps_before more after

-- what the first tokens of a text are read as, the first of them at this offset
abbrev pub part_steps : ℕ → ℕ → List ℕ → List Token → List TextStep
part_steps at count text tokens = steps_before (take count (placed_from at text tokens)) (drop count (placed_from at text tokens))

-- whether the first of the tokens is read as a punct
abbrev pub begins_with_mark : List Token → Bool
begins_with_mark [] = false
begins_with_mark (t ∷ more) = is_mark (class_of t.kind)

-- whether the first of the placed tokens is read as a punct
abbrev pub starts_with_mark : List PlacedToken → Bool
starts_with_mark [] = false
starts_with_mark (t ∷ more) = is_mark (class_of t.kind)

-- a span that was counted from n, counted from the start of the text
abbrev pub placed_on : ℕ → Span → Span
placed_on n s = record s { range = record { start = n + s.range.start; «end» = n + s.range.«end» } }
