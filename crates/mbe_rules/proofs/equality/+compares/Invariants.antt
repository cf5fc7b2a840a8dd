-- The lists that are left are equal if and only if all are.
use Rattle.std.proofs.Common.{◌≡◌, ◌≤◌, suc, ◌+◌, ◌*◌, ◌&&◌}
use Rattle.mbe_rules.specs.Comparing.{pair_same, around_same, pair_count, count_around, weight_around}
use Rattle.mbe_rules.proofs.equality.+compares.Given as goal

abbrev pub decreases-same_ops : goal.decreases-same_ops
decreases-same_ops l = pair_count l.pair

abbrev pub invariant-loop-around : goal.invariant-loop-around
invariant-loop-around l =
    ((pair_same l.here && around_same l.around.items) ≡ pair_same l.pair)
    × (pair_count l.here + count_around l.around.items ≤ pair_count l.pair)

abbrev pub decreases-loop-around : goal.decreases-loop-around
decreases-loop-around l = suc (2 * pair_count l.here) + weight_around l.around.items
