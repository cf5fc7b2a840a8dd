use Rattle.std.proofs.Common.{◌∷◌, [], ap}
use Rattle.std.specs.Prelude.{Some, None}
use Rattle.tt_data.specs.Walk.{walk}
use Rattle.bridge.specs.TokenEvents.{step_of}
use Rattle.expander_model.specs.Expansion.{Outcome, just, placed}
use Rattle.expander_model.specs.Held.{Numbered}
use Rattle.expander_session.specs.AbsoluteSpans.{resolved_steps}
use Rattle.expander_model.specs.WalkSteps.{GoesOn}
use Rattle.expander_scope.proofs.OutcomeLemmas.{step_left, step_less, walk_search}
use Rattle.expander_session.proofs.AbsoluteSpanLemmas.{resolved_more}
use Rattle.expander_session.proofs.PrintingLemmas.{still_more}
use Rattle.expander_session.proofs.absolute_spans.emit_tree.Goals as goal

pub loop-rest-smaller : goal.loop-rest-smaller
loop-rest-smaller c = step_less c.loop-rest.rest c.next.new.self c.in-Some.step (rw c.in-Some.is at c.in_ok-step.ensures)

pub loop-rest-preserved : goal.loop-rest-preserved
loop-rest-preserved c =
    let now : GoesOn c.loop-rest.rest (Some c.in-Some.step) c.next.new.self = rw c.in-Some.is at c.in_ok-step.ensures in
    let is = step_left {D = Numbered} None (λ f. just None (walk f)) (walk_search None) c.loop-rest.rest c.next.new.self c.in-Some.step now
    (λ l first. ap (λ f. just None (walk f)) first) in
    still_more _ c.loop-rest.steps _ _ (resolved_steps c.args.start c.args.starts.now (placed None (step_of c.in-Some.step ∷ []))) _ _ c.loop-rest.invariant
    (resolved_more c.args.start c.args.starts.now _ (placed None (step_of c.in-Some.step ∷ [])) _ (ap (λ (o : Outcome Numbered). o.steps) is)) c.in_ok-emit_event.ensures
