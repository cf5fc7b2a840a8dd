use Rattle.rustc_lexer.proofs.TokensAtLemmas.{tokens_begin}
use Rattle.rustc_lexer.proofs.laws.tokens_begin.Goals as goal

pub returns : goal.returns
returns c = tokens_begin
