use Rattle.rust_grammar.proofs.OutcomeLemmas.{entry-comes, entry-once}
use Rattle.rust_grammar.proofs.laws.one_outcome.Goals as goal

pub returns-clause-comes : goal.returns-clause-comes
returns-clause-comes c = entry-comes

pub returns-clause-once : goal.returns-clause-once
returns-clause-once c = entry-once
