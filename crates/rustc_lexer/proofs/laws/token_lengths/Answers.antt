use Rattle.rustc_lexer.proofs.TokensAtLemmas.{lengths_positive, token_places, lengths_whole}
use Rattle.rustc_lexer.proofs.laws.token_lengths.Goals as goal

pub returns-clause-positive : goal.returns-clause-positive
returns-clause-positive c = lengths_positive

pub returns-clause-boundaries : goal.returns-clause-boundaries
returns-clause-boundaries c = λ text k u. (token_places text k u).boundary

pub returns-clause-places : goal.returns-clause-places
returns-clause-places c = token_places

pub returns-clause-whole : goal.returns-clause-whole
returns-clause-whole c = lengths_whole
