use Rattle.textual_scope.proofs.RuleLemmas.{unfound_outermost}
use Rattle.textual_scope.proofs.laws.without_definitions_limits_change_nothing.Goals as goal

pub returns : goal.returns
returns c = λ dialect world local limits depth f whole wordless. unfound_outermost world local limits depth f dialect whole wordless
