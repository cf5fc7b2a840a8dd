use Rattle.std.proofs.Common.{◌≡◌, ◌∙◌, ap, sym, true, set}
use Rattle.std.proofs.lemmas.List.{length-set}
use Rattle.tt_data.specs.declared.tree.TokenTree.TheVariants as token
use Rattle.tt.specs.Tops.{IsOneGroup, tokens_of}
use Rattle.token_bytes.specs.TokenLists.{has_leaf_at}
use Rattle.tt.proofs.Replacing.{set_one}
use Rattle.tt.proofs.top_subtree.TopSubtree.set_token.Goals as goal

still_one : (c : goal.In_ok-set_leaf) → IsOneGroup (set c.self.inside.tokens c.args.idx (token.Leaf c.args.leaf))
still_one c =
    let there : has_leaf_at c.args.idx c.self.inside.tokens ≡ true = sym (rw c.tokens.ensures at c.if-not-is_leaf_at.ensures.leaf) in
    set_one c.args.leaf c.args.idx c.self.inside.tokens there c.self.invariant.0

pub invariant_of-self-2 : goal.invariant_of-self-2
invariant_of-self-2 c = rw c.in_ok-set_leaf.ensures.ok (still_one c, rw length-set c.self.invariant.1)

pub returns-clause-ok : goal.returns-clause-ok
returns-clause-ok c =
    let kept = ap tokens_of (sym c.self.view_is) ∙ c.self.invariant.0 in
    rw c.in_ok-set_leaf.ensures.ok (still_one c) ∙ c.in_ok-set_leaf.ensures.ok ∙ ap (λ t. set t c.args.idx (token.Leaf c.args.leaf)) (sym kept)
