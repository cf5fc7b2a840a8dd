use Rattle.std.proofs.Common.{◌≡◌, ◌≤◌}
use Rattle.tt_data.specs.Forest.{size}
use Rattle.tt.specs.Building.{extended}
use Rattle.tt_tests.proofs.walks.+put.Given as goal

abbrev pub decreases-put : goal.decreases-put
decreases-put l = size l.trees

abbrev pub invariant-loop-tree : goal.invariant-loop-tree
invariant-loop-tree l =
    (goal.iterator-loop-tree).can_next l.trees
    × (goal.iterator-loop-tree).is_finite l.trees
    × (extended l.builder.tree l.trees ≡ extended l.initial.builder.tree l.initial.trees)
    × (size l.trees ≤ size l.initial.trees)
