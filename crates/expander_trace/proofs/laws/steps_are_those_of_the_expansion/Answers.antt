use Rattle.std.proofs.Common.{◌∙◌, [], ap, append-nil, sym}
use Rattle.std.specs.Prelude.{None}
use Rattle.expander_trace.specs.Laws.{substitute_steps}
use Rattle.expander_trace.specs.Steps.{steps_of}
use Rattle.expander_trace.proofs.LawLemmas.{steps_tell}
use Rattle.expander_trace.proofs.laws.steps_are_those_of_the_expansion.Goals as goal

pub returns-clause-finds : goal.returns-clause-finds
returns-clause-finds c = λ by world scope depth level outer f does. (steps_tell by world does scope depth level outer f).finds

pub returns-clause-faults : goal.returns-clause-faults
returns-clause-faults c = λ by world scope depth level outer f does. (steps_tell by world does scope depth level outer f).faults

pub returns-clause-trees : goal.returns-clause-trees
returns-clause-trees c = λ by world scope depth level outer f does.
    let t = steps_tell by world does scope depth level outer f in
    (t.forest, (ap (substitute_steps depth f) (sym (append-nil (steps_of by scope depth level None f))) ∙ t.puts [], t.events))
