use Rattle.rustc_lexer.proofs.PlainLemmas.{one_number}
use Rattle.rustc_lexer.proofs.laws.one_number.Goals as goal

pub returns : goal.returns
returns c = one_number
