use Rattle.std.proofs.Common.{refl, arith, reverse, length-append}
use Rattle.tt_data.specs.Flat.{length-preorder}
use Rattle.tt_data.specs.Forest.{Forest}
use Rattle.tt_data.specs.declared.tree.TokenTree.{TokenTree}
use Rattle.tt.specs.BuilderTokens.{IsHeld, alone_where, index_of}
use Rattle.tt.specs.Views.{forest}
use Rattle.tt.proofs.Closings.{IsTreeAt-append}
use Rattle.tt.proofs.Held.{IsHeld-append, here_of-append, groups_of-append}
use Rattle.tt.proofs.HeldMarks.{marks_append}
use Rattle.tt.proofs.LastAlone.{size-alone_where}
use Rattle.tt.proofs.Limits.{counted, room_for}
use Rattle.tt.proofs.RewritingLemmas.{handed, handed_back}
use Rattle.tt.proofs.Settled.{IsSettled-append}
use Rattle.tt.proofs.top_subtree.builder.TopSubtreeBuilder.put.Goals as goal

held : (c : goal.In_ok-put_trees) → IsHeld c.self.inside.tokens (reverse c.self.inside.openings.items)
held c = c.self.invariant.0

-- the trees that are appended
trees : (c : goal.In_ok-put_trees) → Forest
trees c = alone_where c.args.is_alone (forest c.args.tt)

pub invariant_of-self-2 : goal.invariant_of-self-2
unfolding trees
invariant_of-self-2 c =
    let counts = size-alone_where c.args.is_alone (forest c.args.tt) in
    rw c.in_ok-put_trees.ensures.ok (
      IsHeld-append _ _ (trees c) (held c),
      omega (arith, c.in_ok-put_trees.ensures.room, counts, length-preorder (trees c), length-append {A = TokenTree}),
      IsTreeAt-append (index_of c.self.inside.last_closed) _ _ _ (held c) c.self.invariant.2,
      IsSettled-append c.self.inside.settled.count _ _ (trees c) (held c) c.self.invariant.3,
      c.self.invariant.4,
      marks_append _ _ _ _ _ c.self.invariant.5,
    )

pub returns-clause-ok : goal.returns-clause-ok
unfolding trees
returns-clause-ok c =
    let h = here_of-append _ _ (trees c) (held c) in
    let g = groups_of-append _ _ (trees c) (held c) in
    rw (← c.self.view_is, c.in_ok-put_trees.ensures.ok) (rw (h, g) refl)

pub returns-in_err-put_trees-clause-tokens : goal.returns-in_err-put_trees-clause-tokens
returns-in_err-put_trees-clause-tokens c =
    let all = counted _ _ c.self.invariant.0 in
    let full = c.in_err-put_trees.ensures.tokens in
    let came = c.from_residual.ensures.1 in
    rw (← c.self.view_is) (
      λ e. omega (arith, all, full.0 (handed c.from_residual.result _ came e)),
      λ e. handed_back c.from_residual.result _ came (full.1 (omega (arith, all, e))),
    )

pub returns-clause-tokens : goal.returns-clause-tokens
returns-clause-tokens c =
    let all = counted _ _ c.self.invariant.0 in
    rw (← c.self.view_is) (room_for _ _ refl (omega (arith, all, c.in_ok-put_trees.ensures.room)))
