use Rattle.std.proofs.Common.{◌≡◌, drop, map}
use Rattle.std.specs.List.{list_any}
use Rattle.expander_trace.specs.Given.{trace_in}
use Rattle.step_report.specs.Faults.{trace_stays}
use Rattle.step_report.proofs.faults.one_stays.Given as given

-- none so far stays
abbrev pub invariant-loop-trace : given.invariant-loop-trace
invariant-loop-trace l =
    list_any (trace_stays l.asked) (map trace_in (drop l.trace-index l.traces))
    ≡ list_any (trace_stays l.asked) (map trace_in l.traces)
