use Rattle.std.proofs.Common.{◌≡◌, List, map, subst, take}
use Rattle.bridge.specs.PrintedTrees.{print_in}
use Rattle.bridge.specs.Printing.{print_of}
use Rattle.expander_model.specs.Expansion.{PlacedStep}
use Rattle.expander_model.specs.Printing.{steps_of}
use Rattle.expander_scope.specs.Outcomes.{placed_of}
use Rattle.call_expansion.specs.Answers.{events_of}
use Rattle.call_expansion.proofs.ListLemmas.{taken_all}
use Rattle.call_expansion.proofs.answer.printed_alone.Goals as goal

pub returns-in-Ok-clause-printed : goal.returns-in-Ok-clause-printed
returns-in-Ok-clause-printed c =
    subst (λ (es : List PlacedStep). print_in c.in-Ok.printed ≡ print_of (steps_of (events_of c.args.name es)))
    (taken_all placed_of c.args.events.now c.loop-event.event-index c.loop-event-test.false)
    (c.in-Ok.ensures.ok (steps_of (events_of c.args.name (map placed_of (take c.loop-event.event-index c.args.events.now)))) c.loop-event.invariant)
