use Rattle.std.proofs.Common.{◌≡◌, false}
use Rattle.tt.specs.Views.{forest}
use Rattle.bridge.specs.PieceTokens.{ends_in_leaf}
use Rattle.bridge.proofs.piece_tree.ends_in_leaf.Given as goal

abbrev pub invariant-loop-tree : goal.invariant-loop-tree
invariant-loop-tree l =
    (goal.iterator-loop-tree).can_next l.tree-iterator
    × (goal.iterator-loop-tree).is_finite l.tree-iterator
    × (ends_in_leaf l.is_leaf l.tree-iterator ≡ ends_in_leaf false (forest l.fn.view))
