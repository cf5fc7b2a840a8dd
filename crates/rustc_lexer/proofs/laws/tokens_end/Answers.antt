use Rattle.rustc_lexer.proofs.TokensAtLemmas.{tokens_end}
use Rattle.rustc_lexer.proofs.laws.tokens_end.Goals as goal

pub returns : goal.returns
returns c = tokens_end
