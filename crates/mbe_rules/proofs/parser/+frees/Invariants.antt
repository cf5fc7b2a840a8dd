use Rattle.std.proofs.Common.{◌≡◌, ◌+◌}
use Rattle.mbe_rules.specs.Counts.{count_of}
use Rattle.mbe_rules.specs.Items.{done}
use Rattle.mbe_rules.specs.Ops.{put_op, items_of}
use Rattle.mbe_rules.proofs.parser.+frees.Given as goal

abbrev pub invariant-free-loop-tokens : goal.invariant-free-loop-tokens
invariant-free-loop-tokens l =
    count_of (items_of l.list.items) + count_of (put_op l.next done)
    ≡ count_of (items_of l.initial.list.items) + count_of (put_op l.initial.next done)

abbrev pub decreases-free-loop-tokens : goal.decreases-free-loop-tokens
decreases-free-loop-tokens l = count_of (put_op l.next done)

abbrev pub decreases-free-loop-op : goal.decreases-free-loop-op
decreases-free-loop-op l = count_of (items_of l.list.items)

abbrev pub decreases-free : goal.decreases-free
decreases-free l = goal.size-free l
