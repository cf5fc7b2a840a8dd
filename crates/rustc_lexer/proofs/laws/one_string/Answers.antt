use Rattle.rustc_lexer.proofs.PlainLemmas.{one_string}
use Rattle.rustc_lexer.proofs.laws.one_string.Goals as goal

pub returns : goal.returns
returns c = one_string
