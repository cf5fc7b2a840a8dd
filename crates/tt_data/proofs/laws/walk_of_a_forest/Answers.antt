-- A forest grows again from its walk.
use Rattle.tt_data.proofs.WalkLemmas.{walk-injective}
use Rattle.tt_data.proofs.laws.walk_of_a_forest.Goals as goal

pub returns : goal.returns
returns c = walk-injective
