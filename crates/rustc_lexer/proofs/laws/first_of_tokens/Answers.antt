use Rattle.rustc_lexer.proofs.TokenLemmas.{first_of_tokens}
use Rattle.rustc_lexer.proofs.laws.first_of_tokens.Goals as goal

pub returns : goal.returns
returns c = first_of_tokens
