use Rattle.std.proofs.Common.{◌≡◌, ◌≤◌, ◌++◌, ◌∙◌, ap, sym, refl, arith, reverse, length}
use Rattle.tt_data.specs.Forest.{preorder}
use Rattle.tt.specs.Building.{leaves}
use Rattle.tt.specs.BuilderTokens.{index_of}
use Rattle.tt.proofs.HeldMarks.{marks_append}
use Rattle.token_bytes.proofs.MarkLemmas.{first_marked}
use Rattle.tt.proofs.Closings.{IsTreeAt-append}
use Rattle.tt.proofs.Held.{IsHeld-append, here_of-append, groups_of-append}
use Rattle.tt.proofs.Limits.{counted}
use Rattle.tt.proofs.Leaves.{preorder-leaves}
use Rattle.tt.proofs.Settled.{IsSettled-append}
use Rattle.tt.proofs.top_subtree.builder.TopSubtreeBuilder.extend.Given.{Over}
use Rattle.tt.proofs.top_subtree.builder.TopSubtreeBuilder.extend.Goals as goal

-- the tokens with those of the leaves after them
added : (g : Over) (c : goal.In-Ok g) → c.put_leaves.new.tokens ≡ c.self.inside.tokens ++ preorder (leaves c.in-Ok.ensures.ok.1)
added g c = c.in-Ok.ensures.ok.4 ∙ ap (λ t. c.self.inside.tokens ++ t) (sym (preorder-leaves c.in-Ok.ensures.ok.1))

pub invariant_of-self : goal.invariant_of-self
invariant_of-self g c =
    let tokens = c.self.inside.tokens in
    let f = leaves c.in-Ok.ensures.ok.1 in
    let fits : length (tokens ++ preorder f) ≤ 4294967296 = rw (added g c) at c.in-Ok.ensures.ok.5 in
    rw (added g c) (
      IsHeld-append tokens (reverse c.self.inside.openings.items) f c.self.invariant.0,
      fits,
      IsTreeAt-append (index_of c.self.inside.last_closed) tokens (preorder f) _ c.self.invariant.0 c.self.invariant.2,
      IsSettled-append c.self.inside.settled.count tokens _ f c.self.invariant.0 c.self.invariant.3,
      c.self.invariant.4,
      marks_append tokens (preorder f) _ _ _ c.self.invariant.5,
    )

pub cut_back-requires : goal.cut_back-requires
cut_back-requires g c = first_marked _ c.self.inside.tokens _ c.end-end.ensures c.in-Err.ensures.err

pub returns-in-Ok-clause-ok : goal.returns-in-Ok-clause-ok
returns-in-Ok-clause-ok g c =
    let tokens = c.self.inside.tokens in
    let done = c.in-Ok.ensures.ok in
    let f = leaves done.1 in
    let h = here_of-append tokens (reverse c.self.inside.openings.items) f c.self.invariant.0 in
    let n = groups_of-append tokens (reverse c.self.inside.openings.items) f c.self.invariant.0 in
    (done.0, done.1, done.2, done.3, rw (← c.self.view_is, added g c) (rw (h, n) refl))

pub returns-in-Err-clause-tokens : goal.returns-in-Err-clause-tokens
returns-in-Err-clause-tokens g c = λ e.
    let over = c.in-Err.ensures.tokens e in
    (over.0, over.1, over.2, over.3, over.4, rw (← c.self.view_is) (omega (arith, over.5, counted _ _ c.self.invariant.0)))
