use Rattle.std.proofs.Common.{◌==◌, ◌∙◌, ap}
use Rattle.rustc_lexer.proofs.StartLemmas.{told_white}
use Rattle.rustc_lexer.proofs.scan.WhiteCharTest.test_byte.Goals as goal

pub returns : goal.returns
returns c = ap (λ n. n == 32) c.start_of.ensures ∙ told_white c.args.b
