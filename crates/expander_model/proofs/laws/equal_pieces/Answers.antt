use Rattle.expander_model.proofs.SamePieceLemmas.{same_pieces}
use Rattle.expander_model.proofs.laws.equal_pieces.Goals as goal

pub returns : goal.returns
returns c = same_pieces c.equal_trees.ensures
