-- What is used so far, and what the remaining parts use, is what all use.
use Rattle.std.proofs.Common.{◌≤◌, ℕ, [], ◌∷◌, ◌++◌}
use Rattle.mbe_matcher.specs.Bound.{map_of}
use Rattle.mbe_transcriber.specs.Limits.{most_rounds}
use Rattle.mbe_transcriber.specs.Uses.{use_at}
use Rattle.mbe_transcriber.proofs.UsesLemmas.{PartsFrom}
use Rattle.mbe_transcriber.proofs.repetition_vars.length_of_parts.Given as goal

abbrev pub invariant-loop-part : goal.invariant-loop-part
invariant-loop-part l = (k : ℕ) → k ≤ most_rounds → PartsFrom (l.rounds ++ (k ∷ [])) (map_of l.bindings) l.parts l.part-index (use_at k l.all)
