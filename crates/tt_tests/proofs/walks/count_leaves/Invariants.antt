use Rattle.std.proofs.Common.{◌≡◌, ◌+◌}
use Rattle.tt.specs.Views.{forest}
use Rattle.tt_tests.specs.Walks.{leaf_count}
use Rattle.tt_tests.proofs.WalkLemmas.{heads_in}
use Rattle.tt_tests.proofs.walks.count_leaves.Given as goal

abbrev pub invariant-loop-token : goal.invariant-loop-token
invariant-loop-token l =
    (goal.iterator-loop-token).can_next l.token-iterator
    × (goal.iterator-loop-token).is_finite l.token-iterator
    × (l.count ≡ leaf_count (forest l.fn.trees) + heads_in l.token-iterator)
