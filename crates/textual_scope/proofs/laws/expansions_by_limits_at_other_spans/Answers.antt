use Rattle.textual_scope.proofs.BoundedLemmas.{outermost-with}
use Rattle.textual_scope.proofs.laws.expansions_by_limits_at_other_spans.Goals as goal

pub returns : goal.returns
returns c = λ dialect f h one two local moved scope changed limits depth around g changes finds made.
    outermost-with f h dialect one two changes local moved made scope changed finds limits depth around g
