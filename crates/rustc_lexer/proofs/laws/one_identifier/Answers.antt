use Rattle.rustc_lexer.proofs.PlainLemmas.{one_identifier}
use Rattle.rustc_lexer.proofs.laws.one_identifier.Goals as goal

pub returns : goal.returns
returns c = one_identifier
