use Rattle.std.proofs.Common.{◌≡◌, ◌↔◌}
use Rattle.tt_data.specs.Forest.{size, front}
use Rattle.tt.proofs.flatten.is_tree_end.Given as goal

-- a tree ends after so many tokens of all exactly if one ends after what is left of that
abbrev pub invariant-loop-left : goal.invariant-loop-left
invariant-loop-left l =
    (goal.iterator-loop-left).can_next l.trees
    × (goal.iterator-loop-left).is_finite l.trees
    × ((size (front l.left l.trees) ≡ l.left) ↔ (size (front l.fn.count l.fn.trees) ≡ l.fn.count))

abbrev pub decreases-loop-left : goal.decreases-loop-left
decreases-loop-left l = l.left
