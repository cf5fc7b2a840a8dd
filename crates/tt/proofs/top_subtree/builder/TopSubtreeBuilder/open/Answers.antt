use Rattle.std.proofs.Common.{◌≡◌, List, ◌∷◌, length, reverse, refl, arith, ap, length-append}
use Rattle.tt.specs.declared.top_subtree.builder.Opening.{Opening}
use Rattle.tt_data.specs.declared.tree.TokenTree.{TokenTree}
use Rattle.token_bytes.specs.declared.mark.Mark.{Mark}
use Rattle.tt.specs.BuilderTokens.{index_of}
use Rattle.token_bytes.specs.Marks.{mark_of}
use Rattle.tt.proofs.HeldMarks.{marks_opened}
use Rattle.tt.proofs.Held.{IsHeld-opened, reverse-popped}
use Rattle.tt.proofs.Closings.{IsTreeAt-opened}
use Rattle.tt.proofs.Settled.{IsSettled-opened}
use Rattle.tt.proofs.Limits.{counted, room_left}
use Rattle.tt.proofs.top_subtree.builder.TopSubtreeBuilder.open.Goals as goal

pub returns-then-len-gt-MOST_TOKENS-clause-tokens : goal.returns-then-len-gt-MOST_TOKENS-clause-tokens
returns-then-len-gt-MOST_TOKENS-clause-tokens c =
    let all = counted _ _ c.self.invariant.0 in
    (λ _. rw (← c.self.view_is) (omega (arith, all, c.self.invariant.1, c.if-len-gt-MOST_TOKENS.true, c.len.ensures)), λ _. refl)

pub returns-in_default-clause-tokens : goal.returns-in_default-clause-tokens
returns-in_default-clause-tokens c =
    let all = counted _ _ c.self.invariant.0 in
    rw (← c.self.view_is) (room_left _ _ refl (omega (arith, all, c.if-len-gt-MOST_TOKENS.false, c.len.ensures)))

pub returns-in-Ok-push-clause-tokens : goal.returns-in-Ok-push-clause-tokens
returns-in-Ok-push-clause-tokens c =
    let all = counted _ _ c.self.invariant.0 in
    rw (← c.self.view_is) (room_left _ _ refl (omega (arith, all, c.if-len-gt-MOST_TOKENS.false, c.len.ensures)))

pub returns-in-Err-clause-tokens : goal.returns-in-Err-clause-tokens
returns-in-Err-clause-tokens c =
    let all = counted _ _ c.self.invariant.0 in
    rw (← c.self.view_is) (room_left _ _ refl (omega (arith, all, c.if-len-gt-MOST_TOKENS.false, c.len.ensures)))

pub invariant_of-self-in-Ok-push : goal.invariant_of-self-in-Ok-push
invariant_of-self-in-Ok-push c =
    let o : Opening = record { at = c.end.result; kind = c.args.delimiter_kind; open_span = c.args.open_span } in
    let os : List Opening = reverse c.self.inside.openings.items in
    let turned : reverse c.push.new.self.items ≡ o ∷ os = reverse-popped c.push.new.self.items c.self.inside.openings.items o c.in-Ok.ensures.items in
    let at_end : o.at ≡ mark_of c.self.inside.tokens = c.end.ensures in
    let counts : o.at.count ≡ length c.self.inside.tokens = ap (λ (m : Mark). m.count) at_end in
    rw (c.in-Ok-push.ensures.ok, turned) (
      IsHeld-opened c.self.inside.tokens _ o os counts c.self.invariant.0,
      omega (arith, c.if-len-gt-MOST_TOKENS.false, c.len.ensures, length-append {A = TokenTree}),
      IsTreeAt-opened (index_of c.self.inside.last_closed) c.self.inside.tokens _ o os counts c.self.invariant.2,
      IsSettled-opened c.self.inside.settled.count c.self.inside.tokens _ o os counts c.self.invariant.3,
      c.self.invariant.4,
      marks_opened c.self.inside.tokens _ o os c.self.inside.last_closed c.self.inside.settled at_end c.self.invariant.5,
    )
