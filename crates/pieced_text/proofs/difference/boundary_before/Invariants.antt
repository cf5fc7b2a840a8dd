use Rattle.std.proofs.Common.{◌≤◌}
use Rattle.pieced_text.proofs.difference.boundary_before.Given as goal

abbrev pub invariant-loop-at : goal.invariant-loop-at
invariant-loop-at l = l.at ≤ l.fn.front

abbrev pub decreases-loop-at : goal.decreases-loop-at
decreases-loop-at l = l.at
