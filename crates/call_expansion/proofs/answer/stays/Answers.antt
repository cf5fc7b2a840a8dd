use Rattle.std.proofs.Common.{◌∙◌, ap, sym}
use Rattle.expander_scope.specs.Outcomes.{placed_of}
use Rattle.expander_scope.specs.declared.outcome.Event.{Event}
use Rattle.call_expansion.specs.Answers.{is_written}
use Rattle.call_expansion.proofs.ListLemmas.{any-map, any_here, any_later, any_none}
use Rattle.call_expansion.proofs.answer.stays.Goals as goal

pub loop-event-init : goal.loop-event-init
loop-event-init c = any-map placed_of (is_written c.args.name) c.args.events.now

pub returns-then-is_written : goal.returns-then-is_written
returns-then-is_written c =
    sym (any_here (λ (e : Event). is_written c.args.name (placed_of e)) c.args.events.now c.loop-event.event-index c.event-item.result c.loop-event-test.true
    (ap (λ (e : Event). is_written c.args.name (placed_of e)) (sym c.event-item.is) ∙ sym c.is_written.ensures ∙ c.if-is_written.true))
    ∙ c.loop-event.invariant

pub loop-event-preserved : goal.loop-event-preserved
loop-event-preserved c =
    sym (any_later (λ (e : Event). is_written c.args.name (placed_of e)) c.args.events.now c.loop-event.event-index c.event-item.result c.loop-event-test.true
    (ap (λ (e : Event). is_written c.args.name (placed_of e)) (sym c.event-item.is) ∙ sym c.is_written.ensures ∙ c.if-is_written.false))
    ∙ c.loop-event.invariant

pub returns : goal.returns
returns c =
    sym (any_none (λ (e : Event). is_written c.args.name (placed_of e)) c.args.events.now c.loop-event.event-index c.loop-event-test.false) ∙ c.loop-event.invariant
