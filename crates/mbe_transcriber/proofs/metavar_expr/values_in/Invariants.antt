-- The values found so far, and those that remain, are all.
use Rattle.std.proofs.Common.{◌≡◌, ◌+◌, length}
use Rattle.mbe_transcriber.specs.Counting.{left_sum, around_sum, weight, weight_around}
use Rattle.mbe_transcriber.proofs.metavar_expr.values_in.Given as goal

abbrev pub invariant-loop-value : goal.invariant-loop-value
invariant-loop-value l = length l.found.items + (left_sum l.list + around_sum l.around.items) ≡ left_sum l.left

abbrev pub decreases-loop-value : goal.decreases-loop-value
decreases-loop-value l = weight l.list + weight_around l.around.items
