use Rattle.std.proofs.Common.{arith}
use Rattle.rustc_lexer.proofs.RunStartLemmas.{last_char, no_char}
use Rattle.rustc_lexer.proofs.relex.lookahead.char_before.Goals as goal

pub returns-then-is_char_boundary : goal.returns-then-is_char_boundary
returns-then-is_char_boundary c =
    last_char c.args.text.now _ c.args.start c.utf8.text (c.is_char_boundary.ensures.test.0 c.if-is_char_boundary.true) c.requires
    (omega (arith, c.loop-at.invariant.before, c.loop-at-test.true)) (λ i l k b. c.loop-at.invariant.none i (omega (arith, l, c.loop-at-test.true)) k b)

pub returns : goal.returns
returns c = no_char c.args.text.now c.args.start c.utf8.text (λ i l k b. c.loop-at.invariant.none i (omega (arith, c.loop-at-test.false)) k b)
