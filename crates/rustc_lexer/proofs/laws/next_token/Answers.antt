use Rattle.rustc_lexer.proofs.TokensAtLemmas.{token_here, other_tokens}
use Rattle.rustc_lexer.proofs.laws.next_token.Goals as goal

pub returns-clause-here : goal.returns-clause-here
returns-clause-here c = token_here

pub returns-clause-others : goal.returns-clause-others
returns-clause-others c = other_tokens
