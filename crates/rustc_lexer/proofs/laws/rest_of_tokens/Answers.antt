use Rattle.rustc_lexer.proofs.PlaceLemmas.{rest_of_tokens, place_in_bytes}
use Rattle.rustc_lexer.proofs.laws.rest_of_tokens.Goals as goal

pub returns-clause-rest : goal.returns-clause-rest
returns-clause-rest c = rest_of_tokens

pub returns-clause-bytes : goal.returns-clause-bytes
returns-clause-bytes c = place_in_bytes
