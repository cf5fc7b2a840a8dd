use Rattle.rustc_lexer.proofs.QuotedNameLemmas.{name_of_lifetime}
use Rattle.rustc_lexer.proofs.laws.name_of_a_lifetime.Goals as goal

pub returns : goal.returns
returns c = name_of_lifetime
