use Rattle.rustc_lexer.proofs.AloneLemmas.{token_alone, token_alone_at}
use Rattle.rustc_lexer.proofs.laws.token_alone.Goals as goal

pub returns-clause-chars : goal.returns-clause-chars
returns-clause-chars c = token_alone

pub returns-clause-bytes : goal.returns-clause-bytes
returns-clause-bytes c = token_alone_at
