use Rattle.std.proofs.Common.{refl, arith, reverse, length-append}
use Rattle.tt_data.specs.Forest.{leaf, empty}
use Rattle.tt_data.specs.declared.tree.TokenTree.{TokenTree}
use Rattle.tt.specs.BuilderTokens.{IsHeld, index_of}
use Rattle.tt.proofs.Held.{IsHeld-append, here_of-append, groups_of-append}
use Rattle.tt.proofs.HeldMarks.{marks_append}
use Rattle.tt.proofs.Closings.{IsTreeAt-append}
use Rattle.tt.proofs.Limits.{counted, room_left}
use Rattle.tt.proofs.RewritingLemmas.{handed, handed_back}
use Rattle.tt.proofs.Settled.{IsSettled-append}
use Rattle.tt.proofs.top_subtree.builder.TopSubtreeBuilder.push.Goals as goal

held : (c : goal.In_ok-put_leaf) → IsHeld c.self.inside.tokens (reverse c.self.inside.openings.items)
held c = c.self.invariant.0

pub invariant_of-self-2 : goal.invariant_of-self-2
invariant_of-self-2 c =
    rw c.in_ok-put_leaf.ensures.ok (
      IsHeld-append _ _ (leaf c.args.leaf empty) (held c),
      omega (arith, c.in_ok-put_leaf.ensures.room, length-append {A = TokenTree}),
      IsTreeAt-append (index_of c.self.inside.last_closed) _ _ _ (held c) c.self.invariant.2,
      IsSettled-append c.self.inside.settled.count _ _ (leaf c.args.leaf empty) (held c) c.self.invariant.3,
      c.self.invariant.4,
      marks_append _ _ _ _ _ c.self.invariant.5,
    )

pub returns-clause-ok : goal.returns-clause-ok
returns-clause-ok c =
    let h = here_of-append _ _ (leaf c.args.leaf empty) (held c) in
    let g = groups_of-append _ _ (leaf c.args.leaf empty) (held c) in
    rw (← c.self.view_is, c.in_ok-put_leaf.ensures.ok) (rw (h, g) refl)

pub returns-in_err-put_leaf-clause-tokens : goal.returns-in_err-put_leaf-clause-tokens
returns-in_err-put_leaf-clause-tokens c =
    let all = counted _ _ c.self.invariant.0 in
    let full = c.in_err-put_leaf.ensures.tokens in
    let came = c.from_residual.ensures.1 in
    rw (← c.self.view_is) (
      λ e. omega (arith, all, c.self.invariant.1, full.0 (handed c.from_residual.result _ came e)),
      λ e. handed_back c.from_residual.result _ came (full.1 (omega (arith, all, e))),
    )

pub returns-clause-tokens : goal.returns-clause-tokens
returns-clause-tokens c =
    let all = counted _ _ c.self.invariant.0 in
    rw (← c.self.view_is) (room_left _ _ refl (omega (arith, all, c.in_ok-put_leaf.ensures.room)))
