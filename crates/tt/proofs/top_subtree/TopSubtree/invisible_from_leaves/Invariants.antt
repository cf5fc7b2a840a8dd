use Rattle.std.proofs.Common.{◌≡◌, ◌++◌, map}
use Rattle.std.specs.Array.Iter.{array_into_iter_items}
use Rattle.tt_data.specs.declared.tree.TokenTree.TheVariants as token
use Rattle.tt.proofs.top_subtree.TopSubtree.invisible_from_leaves.Given as goal

-- the tokens so far, and those of the leaves that are left
abbrev pub invariant-loop-leaf : goal.invariant-loop-leaf
invariant-loop-leaf g l =
    l.tokens ++ map token.Leaf (array_into_iter_items l.leaf-iterator)
    ≡ l.initial.tokens ++ map token.Leaf (array_into_iter_items l.initial.leaf-iterator)
