-- What is left gives what all gave at first.
use Rattle.std.proofs.Common.{◌≡◌, ◌+◌, ◌*◌}
use Rattle.mbe_rules.specs.Counts.{count_of}
use Rattle.mbe_rules.specs.Ops.{items_of}
use Rattle.mbe_matcher.specs.Bound.{map_of}
use Rattle.mbe_matcher.specs.Skipping.{skipped_in, skipped_around, work_around}
use Rattle.mbe_matcher.proofs.bind.skip.Given as goal

abbrev pub invariant-loop-op : goal.invariant-loop-op
invariant-loop-op l = skipped_around l.around.items (skipped_in l.list (map_of l.here)) ≡ skipped_in l.ops (map_of l.initial.here)

abbrev pub decreases-loop-op : goal.decreases-loop-op
decreases-loop-op l = 2 * count_of (items_of l.list) + work_around l.around.items
