use Rattle.std.proofs.Common.{◌∙◌, arith, sym}
use Rattle.expander_trace.specs.Given.{trace_in}
use Rattle.step_report.specs.Faults.{trace_stays}
use Rattle.step_report.proofs.TraceLemmas.{any_here, any_later, any_none}
use Rattle.step_report.proofs.faults.one_stays.Goals as goal

pub returns-then-trace_stays : goal.returns-then-trace_stays
returns-then-trace_stays c =
    any_here trace_in c.args.traces.now c.loop-trace.trace-index (trace_stays c.args.asked)
    c.trace-item.result _ c.loop-trace-test.true c.trace-item.is
    (sym c.trace_stays.ensures ∙ c.if-trace_stays.true) c.loop-trace.invariant

pub loop-trace-preserved : goal.loop-trace-preserved
loop-trace-preserved c =
    any_later trace_in c.args.traces.now c.loop-trace.trace-index (trace_stays c.args.asked)
    c.trace-item.result _ c.loop-trace-test.true c.trace-item.is
    (sym c.trace_stays.ensures ∙ c.if-trace_stays.false) c.loop-trace.invariant

pub returns : goal.returns
returns c =
    any_none trace_in c.args.traces.now c.loop-trace.trace-index (trace_stays c.args.asked) _
    (omega (arith, c.loop-trace-test.false)) c.loop-trace.invariant
