use Rattle.textual_scope.proofs.ResultLemmas.{and_next_assoc, and_nothing, nothing_and, parts-append}
use Rattle.textual_scope.proofs.laws.results_follow_one_another.Goals as goal

pub returns-clause-three : goal.returns-clause-three
returns-clause-three c = λ a f g around. and_next_assoc a f g around

pub returns-clause-before : goal.returns-clause-before
returns-clause-before c = λ outer f around. nothing_and outer f around

pub returns-clause-after : goal.returns-clause-after
returns-clause-after c = λ a around. and_nothing a around

pub returns-clause-lists : goal.returns-clause-lists
returns-clause-lists c = λ dialect world local scope search deeper around front back. parts-append dialect world local scope search deeper around front back
