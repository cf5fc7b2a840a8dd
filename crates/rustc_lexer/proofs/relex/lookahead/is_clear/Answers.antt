use Rattle.std.proofs.Common.{arith, sym}
use Rattle.rustc_lexer.proofs.RelexLemmas.{clear_far, clear_not}
use Rattle.rustc_lexer.proofs.relex.lookahead.is_clear.Goals as goal

pub returns-then-run-at : goal.returns-then-run-at
returns-then-run-at c = sym (clear_not c.args.text.now c.args.at c.args.start c.args.run c.requires.at c.requires.run c.if-run-at.true)

pub returns-then-start-at-ge8 : goal.returns-then-start-at-ge8
returns-then-start-at-ge8 c =
    sym (clear_far c.args.text.now c.args.at c.args.start c.args.run c.utf8.text c.requires.at c.requires.start c.requires.run (omega (arith, c.if-run-at.false)) c.if-start-at-ge8.true)
