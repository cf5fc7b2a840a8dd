use Rattle.rustc_lexer.proofs.SuffixLemmas.{suffix_boundary, suffix_within}
use Rattle.rustc_lexer.proofs.laws.suffix_starts.Goals as goal

pub returns-clause-within : goal.returns-clause-within
returns-clause-within c = suffix_within

pub returns-clause-boundary : goal.returns-clause-boundary
returns-clause-boundary c = suffix_boundary
