use Rattle.std.proofs.Common.{map, take}
use Rattle.bridge.specs.Printers.{HasPut}
use Rattle.expander_model.specs.Printing.{steps_of}
use Rattle.expander_scope.specs.Outcomes.{placed_of}
use Rattle.call_expansion.specs.Answers.{events_of}
use Rattle.call_expansion.proofs.answer.printed_alone.Given as goal

-- the events of the call so far were printed
abbrev pub invariant-loop-event : goal.invariant-loop-event
invariant-loop-event l = HasPut l.printer (steps_of (events_of l.name (map placed_of (take l.event-index l.events))))
