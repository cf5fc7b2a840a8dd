-- Token by token: where it starts, and where the next one does.
use Rattle.std.proofs.Common.{◌≤◌, ◌+◌, length, arith, subst, sym}
use Rattle.rustc_lexer.specs.TokensAt.{AreTokensFrom}
use Rattle.bridge_tests.proofs.texts.after_first.Goals as goal

pub loop-left-init : goal.loop-left-init
loop-left-init c = subst (AreTokensFrom c.args.text.now 0) (sym c.requires.tokens) (c.tokens_begin.ensures c.args.text.now c.utf8.text)

pub overflow_add-start : goal.overflow_add-start
overflow_add-start c =
    let at = (c.next_token.ensures.here _ _ _ _ _ c.utf8.text c.loop-left.invariant c.in-Some.ensures.cases.0) in
    let fits : c.loop-left.start + c.in-Some.token.now.len ≤ length c.args.text.now = at.stop.0 in
    omega arith

pub loop-left-preserved : goal.loop-left-preserved
loop-left-preserved c = c.next_token.ensures.others _ _ _ _ _ c.utf8.text c.loop-left.invariant c.in-Some.ensures.cases.0
