use Rattle.std.proofs.Common.{List, arith, flat_map, map, refl, string_bytes}
use Rattle.expander_trace.specs.Given.{trace_in}
use Rattle.expander_trace.specs.declared.step.Trace.{Trace}
use Rattle.step_report.specs.Lines.{trace_lines}
use Rattle.step_report.specs.Bound.{context_by}
use Rattle.step_report.specs.Texts.{texts_in}
use Rattle.step_report.proofs.ListLemmas.{all_told}
use Rattle.step_report.proofs.TraceLemmas.{one_more_text}
use Rattle.step_report.proofs.lines.push_text.Goals as goal

pub loop-trace-preserved : goal.loop-trace-preserved
loop-trace-preserved g c =
    one_more_text trace_in c.args.traces.now c.loop-trace.trace-index
    (trace_lines (context_by (texts_in c.args.context.now.texts.now) (g.G.FragmentGrammar.answer c.args.context.now.grammar.now) c.args.context.now.edition) c.args.asked) c.trace-item.result
    (string_bytes c.loop-trace.out) (string_bytes c.push_trace.new.out) _
    c.loop-trace-test.true c.trace-item.is c.loop-trace.invariant c.in_ok-push_trace.ensures

pub returns : goal.returns
returns g c =
    all_told (λ (ts : List Trace). flat_map (trace_lines (context_by (texts_in c.args.context.now.texts.now) (g.G.FragmentGrammar.answer c.args.context.now.grammar.now) c.args.context.now.edition) c.args.asked)
    (map trace_in ts)) c.args.traces.now c.loop-trace.trace-index (string_bytes c.loop-trace.out) _
    (omega (arith, c.loop-trace-test.false)) refl c.loop-trace.invariant
