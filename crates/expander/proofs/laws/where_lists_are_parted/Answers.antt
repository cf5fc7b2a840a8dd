use Rattle.expander.proofs.PartedListLemmas.{parted_before_call, parted_behind_group}
use Rattle.expander.proofs.laws.where_lists_are_parted.Goals as goal

pub returns-clause-groups : goal.returns-clause-groups
returns-clause-groups c = λ front d inner rest. parted_behind_group d inner rest front

pub returns-clause-calls : goal.returns-clause-calls
returns-clause-calls c = λ front rest call e none. parted_before_call front rest call e none
