use Rattle.std.proofs.Common.{◌∙◌, sym, arith}
use Rattle.tt_tests.proofs.BuildLemmas.{less_by_group, less_by_leaf, next_group, next_leaf, nothing_left, with_group, with_leaf}
use Rattle.tt_tests.proofs.walks.+put.Goals as goal

pub loop-tree-preserved-in-Continue-1 : goal.loop-tree-preserved-in-Continue-1
loop-tree-preserved-in-Continue-1 t c =
    let w = c.loop-tree.invariant in
    let e = next_leaf _ _ _ _ c.in-Some.ensures.steps c.in-Leaf.is in
    let less = less_by_leaf _ _ _ e in
    (w.0, w.1, with_leaf _ _ _ _ _ e c.in_ok-push-in-Leaf.ensures.ok ∙ w.2, omega (arith, less, w.3))

pub loop-tree-preserved : goal.loop-tree-preserved
loop-tree-preserved t c =
    let w = c.loop-tree.invariant in
    let e = next_group _ _ _ _ _ c.in-Some.ensures.steps c.in-Subtree.is in
    let less = less_by_group _ _ _ _ e in
    (w.0, w.1, with_group _ _ _ _ _ _ _ _ e c.in_ok-open-in-Subtree.ensures.ok c.in_ok-put-in-Subtree.ensures c.in_ok-close-in-Subtree.ensures.ok ∙ w.2, omega (arith, less, w.3))

pub returns : goal.returns
returns t c = sym (nothing_left _ _ c.in_default.ensures.steps.0) ∙ c.loop-tree.invariant.2
