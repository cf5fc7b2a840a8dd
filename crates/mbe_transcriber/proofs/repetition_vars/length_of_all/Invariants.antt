-- What is used so far, and what the remaining ops use, is what all use.
use Rattle.std.proofs.Common.{◌≡◌, ◌≤◌, ℕ, [], ◌∷◌, ◌++◌}
use Rattle.mbe_rules.specs.Ops.{items_of}
use Rattle.mbe_matcher.specs.Bound.{map_of}
use Rattle.mbe_transcriber.specs.Filling.{names}
use Rattle.mbe_transcriber.specs.Limits.{most_rounds}
use Rattle.mbe_transcriber.specs.Uses.{beside, together, use_at, uses_of}
use Rattle.mbe_transcriber.specs.Walks.{names_left, work_left}
use Rattle.mbe_transcriber.proofs.repetition_vars.length_of_all.Given as goal

abbrev pub invariant-loop-walk : goal.invariant-loop-walk
invariant-loop-walk l =
    (k : ℕ) → k ≤ most_rounds →
    beside (use_at k l.all) (together (uses_of (l.rounds ++ (k ∷ [])) (map_of l.bindings) (names_left l.walk)))
    ≡ together (uses_of (l.rounds ++ (k ∷ [])) (map_of l.bindings) (names (items_of l.ops)))

abbrev pub decreases-loop-walk : goal.decreases-loop-walk
decreases-loop-walk l = work_left l.walk
