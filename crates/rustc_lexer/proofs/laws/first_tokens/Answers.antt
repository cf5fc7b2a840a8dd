use Rattle.rustc_lexer.proofs.PlaceLemmas.{first_tokens, same_place}
use Rattle.rustc_lexer.proofs.FirstBytesLemmas.{same_first_tokens, two_ahead}
use Rattle.rustc_lexer.proofs.laws.first_tokens.Goals as goal

pub returns-clause-tokens : goal.returns-clause-tokens
returns-clause-tokens c = λ k cs ds e. first_tokens k cs ds (record { same = e })

pub returns-clause-places : goal.returns-clause-places
returns-clause-places c = λ k cs ds e. same_place k cs ds (record { same = e })

pub returns-clause-bytes : goal.returns-clause-bytes
returns-clause-bytes c = same_first_tokens

pub returns-clause-two : goal.returns-clause-two
returns-clause-two c = two_ahead
