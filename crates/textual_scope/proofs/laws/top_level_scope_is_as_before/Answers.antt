use Rattle.textual_scope.proofs.RuleLemmas.{top_level, top_level_meaning}
use Rattle.textual_scope.proofs.laws.top_level_scope_is_as_before.Goals as goal

pub returns-clause-lists : goal.returns-clause-lists
returns-clause-lists c = λ world local scope depth standing outer f. top_level world local scope depth standing outer f

pub returns-clause-texts : goal.returns-clause-texts
returns-clause-texts c = λ layers depth initial text is. top_level_meaning layers depth is initial text
