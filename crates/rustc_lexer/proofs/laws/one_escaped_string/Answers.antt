use Rattle.rustc_lexer.proofs.PlainLemmas.{one_escaped_string}
use Rattle.rustc_lexer.proofs.laws.one_escaped_string.Goals as goal

pub returns : goal.returns
returns c = one_escaped_string
