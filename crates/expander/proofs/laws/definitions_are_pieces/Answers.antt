use Rattle.std.proofs.Common.{[]}
use Rattle.expander_model.specs.Pieces.{pieces}
use Rattle.expander_session.proofs.TreeLemmas.{trees_of_members}
use Rattle.expander.proofs.laws.definitions_are_pieces.Goals as goal

pub returns : goal.returns
returns c = λ layers depth f. trees_of_members layers depth [] (pieces f)
