use Rattle.std.proofs.Common.{◌≡◌}
use Rattle.mbe_rules.specs.Trees.{past}
use Rattle.mbe_matcher.proofs.position.past.Given as goal

abbrev pub invariant-loop-left : goal.invariant-loop-left
invariant-loop-left l = past l.left l.rest ≡ past l.count l.trees

abbrev pub decreases-loop-left : goal.decreases-loop-left
decreases-loop-left l = l.left
