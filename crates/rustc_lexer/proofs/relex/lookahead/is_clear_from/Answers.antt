use Rattle.std.proofs.Common.{arith, sym}
use Rattle.rustc_lexer.proofs.RelexLemmas.{clear_far}
use Rattle.rustc_lexer.proofs.relex.lookahead.is_clear_from.Goals as goal

pub returns-then-at-sure : goal.returns-then-at-sure
returns-then-at-sure c =
    sym (clear_far c.args.text.now c.args.at c.args.start c.args.run c.utf8.text c.requires.at c.requires.start c.requires.run
    (omega (arith, c.if-at-sure.true, c.requires.sure.0)) (omega (arith, c.if-at-sure.true, c.requires.sure.1)))
