use Rattle.tt.proofs.EqualityLemmas.{trees}
use Rattle.tt.proofs.laws.equal_trees.Goals as goal

pub returns : goal.returns
returns c = trees
