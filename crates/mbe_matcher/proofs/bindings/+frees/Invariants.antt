use Rattle.std.proofs.Common.{◌≡◌, ◌+◌}
use Rattle.mbe_matcher.proofs.CountLemmas.{count_one, count_all}
use Rattle.mbe_matcher.proofs.bindings.+frees.Given as goal

abbrev pub invariant-free-loop-inner : goal.invariant-free-loop-inner
invariant-free-loop-inner l =
    count_all l.list.items + count_one l.next ≡ count_all l.initial.list.items + count_one l.initial.next

abbrev pub decreases-free-loop-inner : goal.decreases-free-loop-inner
decreases-free-loop-inner l = count_one l.next

abbrev pub decreases-free-loop-value : goal.decreases-free-loop-value
decreases-free-loop-value l = count_all l.list.items

abbrev pub decreases-free : goal.decreases-free
decreases-free l = goal.size-free l
