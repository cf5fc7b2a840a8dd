use Rattle.textual_scope.proofs.ChangeLemmas.{scoped-with}
use Rattle.textual_scope.proofs.laws.scoped_expansions_at_other_spans.Goals as goal

pub returns : goal.returns
returns c = λ dialect f h one two local moved scope changed depth around g changes finds made.
    scoped-with f h dialect one two changes local moved made scope changed finds depth around g
