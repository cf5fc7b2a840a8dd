use Rattle.std.proofs.Common.{◌≡◌, ◌+◌, ◌++◌, ◌∷◌, [], ◌∙◌, ap, arith, length, map, length-append}
use Rattle.std.proofs.lemmas.List.{length-map}
use Rattle.tt_data.specs.declared.tree.TokenTree.TheVariants as token
use Rattle.tt.proofs.Leaves.{yields_more}
use Rattle.tt.proofs.RewritingLemmas.{handed}
use Rattle.tt.proofs.top_subtree.builder.put_leaves.Goals as goal

pub returns-in_err-put_leaf-clause-tokens : goal.returns-in_err-put_leaf-clause-tokens
returns-in_err-put_leaf-clause-tokens g c =
    let yielded = c.loop-leaf.yielded in
    let step = rw c.in-Some.is at c.next.ensures.steps in
    let n : length (yielded ++ c.in-Some.leaf ∷ []) ≡ length yielded + 1 = length-append yielded (c.in-Some.leaf ∷ []) in
    let now : length c.loop-leaf.tokens ≡ length c.args.tokens.now + length yielded =
    ap length c.loop-leaf.invariant.2 ∙ length-append c.args.tokens.now (map token.Leaf yielded) ∙ ap (λ k. length c.args.tokens.now + k) (length-map yielded token.Leaf) in
    λ e. (
      c.into_iter-leaf-iterator.result,
      yielded ++ c.in-Some.leaf ∷ [],
      c.next.new.self,
      c.into_iter-leaf-iterator.ensures.into_iter_gives,
      yields_more g.I.IntoIter.Iterator.next_gives c.into_iter-leaf-iterator.result yielded c.loop-leaf.leaf-iterator c.next.new.self c.in-Some.leaf
          c.loop-leaf.yielded_by step,
      omega (arith, n, now, c.in_err-put_leaf.ensures.tokens.0 (handed c.from_residual.result _ c.from_residual.ensures.1 e)),
    )
