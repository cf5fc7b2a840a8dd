use Rattle.expander.proofs.HeldPieceLemmas.{counted, fresh, outcome}
use Rattle.expander.proofs.laws.valid_memos_are_new_expansions.Goals as goal

pub returns-clause-outcome : goal.returns-clause-outcome
returns-clause-outcome c = outcome c.equal_pieces.ensures

pub returns-clause-counted : goal.returns-clause-counted
returns-clause-counted c = counted c.equal_pieces.ensures

pub returns-clause-fresh : goal.returns-clause-fresh
returns-clause-fresh c = fresh c.equal_pieces.ensures
