use Rattle.std.proofs.Common.{◌≡◌, ◌≤◌, ◌^◌, ◌++◌, length, map}
use Rattle.tt_data.specs.declared.tree.TokenTree.TheVariants as token
use Rattle.tt.proofs.top_subtree.builder.put_leaves.Given as goal

-- the leaves so far stand after the first tokens, and had room
abbrev pub invariant-loop-leaf : goal.invariant-loop-leaf
invariant-loop-leaf g l =
    (goal.iterator-loop-leaf g).can_next l.leaf-iterator
    × (goal.iterator-loop-leaf g).is_finite l.leaf-iterator
    × (l.tokens ≡ l.fn.tokens ++ map token.Leaf l.yielded)
    × (length l.tokens ≤ 2 ^ 32)
