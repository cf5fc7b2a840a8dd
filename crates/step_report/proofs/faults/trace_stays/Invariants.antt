use Rattle.std.proofs.Common.{◌≡◌, drop, map}
use Rattle.std.specs.List.{list_any}
use Rattle.std.specs.Prelude.{◌||◌, is_some, not}
use Rattle.expander_trace.specs.Given.{step_in}
use Rattle.step_report.specs.Asked.{asked_steps}
use Rattle.step_report.specs.Faults.{stays}
use Rattle.step_report.proofs.faults.trace_stays.Given as given

-- one so far stays or one of those that are left, if one of all does
abbrev pub invariant-loop-step : given.invariant-loop-step
invariant-loop-step l =
    (l.found || list_any stays
    (asked_steps l.asked l.on (map step_in (drop l.step-index l.trace.steps.items))))
    ≡ list_any stays
    (asked_steps l.asked (not (is_some l.asked)) (map step_in l.trace.steps.items))
