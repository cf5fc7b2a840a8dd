-- By induction on the forest, in `Flat`.
use Rattle.tt_data.specs.Flat.{forest_of-preorder, IsPreorder-preorder, length-preorder}
use Rattle.tt_data.proofs.laws.tokens_of_a_forest.Goals as goal

pub returns-clause-back : goal.returns-clause-back
returns-clause-back c = forest_of-preorder

pub returns-clause-whole : goal.returns-clause-whole
returns-clause-whole c = IsPreorder-preorder

pub returns-clause-counted : goal.returns-clause-counted
returns-clause-counted c = length-preorder
