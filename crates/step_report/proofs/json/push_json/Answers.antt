use Rattle.std.proofs.Common.{◌≡◌, List, ℕ, arith, string_bytes, subst}
use Rattle.std.specs.Prelude.{OnOk}
use Rattle.expander_trace.specs.Given.{trace_in}
use Rattle.step_report.specs.Bound.{context_by}
use Rattle.step_report.specs.Texts.{texts_in}
use Rattle.step_report.proofs.TraceLemmas.{all_json, one_more_json}
use Rattle.step_report.proofs.json.push_json.Goals as goal

pub loop-trace-preserved : goal.loop-trace-preserved
loop-trace-preserved g c =
    one_more_json trace_in c.args.traces.now c.loop-trace.trace-index
    (context_by (texts_in c.args.context.now.texts.now) (g.G.FragmentGrammar.answer c.args.context.now.grammar.now) c.args.context.now.edition) c.args.asked c.loop-trace.next c.loop-trace.cut
    c.trace-item.result c.in_ok-next.next c.or_cut-cut.result (string_bytes c.loop-trace.out)
    (string_bytes c.push_trace.new.out) _ c.loop-trace-test.true c.trace-item.is
    c.loop-trace.invariant c.in_ok-next.ensures.lines c.in_ok-next.ensures.next c.or_cut-cut.ensures

pub returns : goal.returns
returns g c =
    subst (λ (bytes : List ℕ). OnOk c.push_end.result (string_bytes c.push_end.new.out ≡ bytes))
    (all_json trace_in c.args.traces.now c.loop-trace.trace-index (context_by (texts_in c.args.context.now.texts.now) (g.G.FragmentGrammar.answer c.args.context.now.grammar.now) c.args.context.now.edition)
    c.args.asked c.loop-trace.next c.loop-trace.cut (string_bytes c.loop-trace.out) _
    (omega (arith, c.loop-trace-test.false)) c.loop-trace.invariant)
    c.push_end.ensures
