use Rattle.textual_scope.proofs.ConditionLemmas.{without_attributes, same_definition}
use Rattle.textual_scope.proofs.laws.conditions_leave_other_pieces_alone.Goals as goal

pub returns-clause-others : goal.returns-clause-others
returns-clause-others c = λ options text items piece e. without_attributes options text items piece e

pub returns-clause-definitions : goal.returns-clause-definitions
returns-clause-definitions c = λ options text items piece e. same_definition options text items piece e
