use Rattle.std.proofs.Common.{◌≡◌}
use Rattle.mbe_rules.specs.Copying.{whole, weight}
use Rattle.mbe_rules.specs.Ops.{items_of}
use Rattle.mbe_rules.proofs.clone.copy_ops.Given as goal

abbrev pub invariant-loop-more : goal.invariant-loop-more
invariant-loop-more l = whole l.nest ≡ items_of l.ops

abbrev pub decreases-loop-more : goal.decreases-loop-more
decreases-loop-more l = weight l.nest
