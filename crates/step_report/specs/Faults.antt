-- Whether a call that is told of stays for a fault.
use Rattle.std.specs.Prelude.{ℕ, Bool, true, false, List, not, Option, Some, None, is_some, Result}
use Rattle.std.specs.Prelude.{Ok, Err}
use Rattle.std.specs.List.{list_any}
use Rattle.tt_data.specs.Forest.{Forest}
use Rattle.tt_data.specs.declared.span.TextRange.{TextRange}
use Rattle.expander_model.specs.declared.fault.FaultKind.{FaultKind}
use Rattle.expander_trace.specs.Parts.{Part}
use Rattle.expander_trace.specs.Steps.{Attempt, Step}
use Rattle.step_report.specs.Asked.{asked_steps}

abbrev pub is_fault : Result (ℕ × Forest) FaultKind → Bool
is_fault (Ok given) = false
is_fault (Err kind) = true

abbrev pub attempt_stays : Option (Attempt Forest) → Bool
attempt_stays None = false
attempt_stays (Some a) = is_fault a.given

-- a call stays for a fault: not one whose name finds nothing
abbrev pub stays : Step Forest → Bool
stays s = attempt_stays s.attempt

-- one of the steps that are told of does
abbrev pub trace_stays : Option TextRange → Part Forest → Bool
trace_stays asked p = list_any stays (asked_steps asked (not (is_some asked)) p.steps)

abbrev pub one_stays : Option TextRange → List (Part Forest) → Bool
one_stays asked ps = list_any (trace_stays asked) ps
