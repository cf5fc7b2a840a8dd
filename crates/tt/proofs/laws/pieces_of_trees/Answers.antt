use Rattle.tt.proofs.Separators.{pieces_next, pieces_counted}
use Rattle.tt.proofs.laws.pieces_of_trees.Goals as goal

pub returns-clause-next : goal.returns-clause-next
returns-clause-next c = pieces_next

pub returns-clause-counted : goal.returns-clause-counted
returns-clause-counted c = pieces_counted
