use Rattle.std.proofs.Common.{◌∷◌, [], ap}
use Rattle.std.specs.Prelude.{Some}
use Rattle.tt_data.specs.Walk.{walk}
use Rattle.bridge.specs.TokenEvents.{step_of}
use Rattle.expander_model.specs.Expansion.{Outcome, just, placed}
use Rattle.expander_model.specs.Held.{Numbered}
use Rattle.expander_model.specs.WalkSteps.{GoesOn}
use Rattle.expander_scope.proofs.OutcomeLemmas.{step_left, step_less, walk_search}
use Rattle.expander_scope.proofs.SinkLemmas.{still_more}
use Rattle.expander_scope.proofs.event_sink.take_walk.Goals as goal

pub loop-rest-smaller : goal.loop-rest-smaller
loop-rest-smaller g c = step_less c.loop-rest.rest c.next.new.self c.in-Some.step (rw c.in-Some.is at c.in_ok-step.ensures)

pub loop-rest-preserved : goal.loop-rest-preserved
loop-rest-preserved g c =
    let now : GoesOn c.loop-rest.rest (Some c.in-Some.step) c.next.new.self = rw c.in-Some.is at c.in_ok-step.ensures in
    let is = step_left {D = Numbered} c.args.outer (λ f. just c.args.outer (walk f)) (walk_search c.args.outer) c.loop-rest.rest c.next.new.self c.in-Some.step now
    (λ l first. ap (λ f. just c.args.outer (walk f)) first) in
    still_more g.S.EventSink.has_taken c.args.sink.now c.loop-rest.sink _ _ (placed c.args.outer (step_of c.in-Some.step ∷ [])) _ _ c.loop-rest.invariant
    (ap (λ (o : Outcome Numbered). o.steps) is) c.in_ok-take.ensures
