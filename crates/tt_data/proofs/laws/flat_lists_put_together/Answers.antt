-- By the forests that the lists hold.
use Rattle.tt_data.proofs.FlatLemmas.{IsPreorder-leaf_before, forest_of-append_whole, IsPreorder-append, forest_of-grouped, IsPreorder-grouped}
use Rattle.tt_data.proofs.laws.flat_lists_put_together.Goals as goal

pub returns-clause-leaf_before : goal.returns-clause-leaf_before
returns-clause-leaf_before c = IsPreorder-leaf_before

pub returns-clause-appended : goal.returns-clause-appended
returns-clause-appended c = forest_of-append_whole

pub returns-clause-appended_whole : goal.returns-clause-appended_whole
returns-clause-appended_whole c = IsPreorder-append

pub returns-clause-grouped : goal.returns-clause-grouped
returns-clause-grouped c = forest_of-grouped

pub returns-clause-grouped_whole : goal.returns-clause-grouped_whole
returns-clause-grouped_whole c = IsPreorder-grouped
