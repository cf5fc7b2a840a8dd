use Rattle.rustc_lexer.proofs.TokensAtLemmas.{no_token_is_eof}
use Rattle.rustc_lexer.proofs.laws.no_token_is_eof.Goals as goal

pub returns : goal.returns
returns c = no_token_is_eof
