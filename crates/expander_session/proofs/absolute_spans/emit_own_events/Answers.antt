use Rattle.std.proofs.Common.{[], ◌∷◌}
use Rattle.expander_scope.specs.Outcomes.{placed_of}
use Rattle.expander_session.specs.AbsoluteSpans.{resolved_steps}
use Rattle.expander_session.proofs.AbsoluteSpanLemmas.{own_done, own_left}
use Rattle.expander_session.proofs.PrintingLemmas.{still_more}
use Rattle.expander_session.proofs.absolute_spans.emit_own_events.Goals as goal

pub loop-step-preserved : goal.loop-step-preserved
loop-step-preserved c =
    still_more _ c.loop-step.steps _ _ (resolved_steps c.args.start c.args.starts.now (placed_of c.step-item.result ∷ [])) _ _ c.loop-step.invariant
    (own_left c.args.start c.args.starts.now c.args.own.now c.loop-step.step-index c.step-item.result c.loop-step-test.true c.step-item.is) c.in_ok-emit_own_event.ensures

pub returns : goal.returns
returns c = own_done c.args.start c.args.starts.now c.args.own.now c.loop-step.step-index _ _ _ c.loop-step-test.false c.loop-step.invariant
