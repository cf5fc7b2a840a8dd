-- By induction on the first forest.
use Rattle.tt_data.specs.Flat.{forest_of-append, joined-empty, preorder-joined}
use Rattle.tt_data.proofs.ForestLemmas.{joined_assoc, size-joined, walk-joined}
use Rattle.tt_data.proofs.laws.forests_joined.Goals as goal

pub returns-clause-grouping : goal.returns-clause-grouping
returns-clause-grouping c = joined_assoc

pub returns-clause-nothing : goal.returns-clause-nothing
returns-clause-nothing c = joined-empty

pub returns-clause-counted : goal.returns-clause-counted
returns-clause-counted c = size-joined

pub returns-clause-tokens : goal.returns-clause-tokens
returns-clause-tokens c = preorder-joined

pub returns-clause-steps : goal.returns-clause-steps
returns-clause-steps c = walk-joined

pub returns-clause-followed : goal.returns-clause-followed
returns-clause-followed c = forest_of-append
