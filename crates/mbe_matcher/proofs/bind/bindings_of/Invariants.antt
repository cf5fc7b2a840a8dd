-- The remaining entries give what all gave at first.
use Rattle.std.proofs.Common.{◌≡◌, length, reverse}
use Rattle.std.specs.List.{flat_map}
use Rattle.mbe_matcher.specs.Collecting.{after_all, collected_of}
use Rattle.mbe_matcher.specs.Threads.{steps_of}
use Rattle.mbe_matcher.proofs.bind.bindings_of.Given as goal

abbrev pub invariant-loop-entry : goal.invariant-loop-entry
invariant-loop-entry l =
    after_all (flat_map steps_of (reverse l.entries.items)) (collected_of l.collected)
    ≡ after_all (flat_map steps_of (reverse l.initial.entries.items)) (collected_of l.initial.collected)

abbrev pub decreases-loop-entry : goal.decreases-loop-entry
decreases-loop-entry l = length l.entries.items
