use Rattle.std.proofs.Common.{◌≤◌}
use Rattle.pieced_text.proofs.difference.boundary_behind.Given as goal

abbrev pub invariant-loop-count : goal.invariant-loop-count
invariant-loop-count l = l.count ≤ l.fn.back

abbrev pub decreases-loop-count : goal.decreases-loop-count
decreases-loop-count l = l.count
