use Rattle.std.proofs.Common.{◌∙◌, ap, sym}
use Rattle.call_expansion.specs.Around.{contains}
use Rattle.expander_trace.specs.Steps.{is_asked}
use Rattle.expander_trace.proofs.StepLemmas.{first_is}
use Rattle.expander_trace.proofs.list.is_asked.Goals as goal

pub returns-in-Some : goal.returns-in-Some
returns-in-Some c = λ place more e.
    c.contains.ensures ∙ ap (contains c.in-Some.at) (first_is _ place _ more (sym c.place_of.ensures ∙ e)) ∙ ap (λ o. is_asked o place) (sym c.in-Some.is)
