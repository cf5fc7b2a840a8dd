-- Where tokens are in a text: as it is read, and as they were printed.
use Rattle.std.specs.Prelude.{◌≡◌, ℕ, ◌+◌, ◌≤◌, List, [], ◌∷◌, length, map, ⊤}
use Rattle.std.specs.List.{slice_range}
use Rattle.tt_data.specs.declared.span.TextRange.{TextRange}
use Rattle.bridge.specs.Printing.{PrintedToken, depth_after, gap, step_span}
use Rattle.bridge.specs.Reading.{TextStep, step, bad}
use Rattle.bridge.specs.TokenSteps.{text_steps}

-- where a token is that was read, or one that cannot be read
abbrev pub range_of_step : TextStep → TextRange
range_of_step (step s) = (step_span s).range
range_of_step (bad range) = range

-- the ranges of all tokens that a text is read as, in order
abbrev pub read_ranges : List ℕ → List TextRange
read_ranges text = map range_of_step (text_steps text)

-- where a printed token is whose text begins at this offset
abbrev pub range_at : ℕ → PrintedToken → TextRange
range_at at a = record { start = at; «end» = at + length a.text }

-- where printed tokens are in their text, the first of them at an offset and after so many open
-- visible groups: each begins where the gap after the one before it ends
abbrev pub ranges_from : ℕ → ℕ → List PrintedToken → List TextRange
ranges_from at depth [] = []
ranges_from at depth (a ∷ []) = range_at at a ∷ []
ranges_from at depth (a ∷ b ∷ more) =
    range_at at a
    ∷ ranges_from (at + length a.text + length (gap (depth_after depth a.step) a b)) (depth_after depth a.step) (b ∷ more)

-- where printed tokens are in the printed text
abbrev pub printed_ranges : List PrintedToken → List TextRange
printed_ranges = ranges_from 0 0

-- as many ranges as printed tokens, in order and disjoint, the first at the offset or later; each
-- token is spelled at its range
abbrev pub AreSpelledAt : List ℕ → ℕ → List PrintedToken → List TextRange → Type 0
AreSpelledAt text at [] [] = ⊤
AreSpelledAt text at (a ∷ more) (r ∷ rs) =
    (at ≤ r.start) × (r.start ≤ r.«end») × (slice_range text r.start r.«end» ≡ a.text) × AreSpelledAt text r.«end» more rs
AreSpelledAt text at _ _ = ⊥
