use Rattle.std.proofs.Common.{◌≡◌, drop, map}
use Rattle.std.specs.List.{list_any}
use Rattle.expander_scope.specs.Outcomes.{placed_of}
use Rattle.expander_scope.specs.declared.outcome.Event.{Event}
use Rattle.call_expansion.specs.Answers.{is_written, stays}
use Rattle.call_expansion.proofs.answer.stays.Given as goal

-- none so far is the name
abbrev pub invariant-loop-event : goal.invariant-loop-event
invariant-loop-event l =
    list_any (λ (e : Event). is_written l.name (placed_of e)) (drop l.event-index l.events) ≡ stays l.name (map placed_of l.events)
