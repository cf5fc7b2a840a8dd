-- How the code goes over the events that it prints.
use Rattle.std.specs.Prelude.{◌≡◌, List, [], ◌∷◌, ◌++◌, Option, Some, None, reverse}
use Rattle.tt_data.specs.Walk.{Step, closes, walk}
use Rattle.bridge.specs.declared.printing.event.OpenGroup.{OpenGroup}
use Rattle.bridge.specs.declared.printing.event.Events.{Events}
use Rattle.bridge.specs.declared.printing.event.TokenEvent.{TokenEvent}
use Rattle.bridge.specs.TokenEvents.{step_of}

-- the events after the trees that are left, where these groups are open, the innermost first
abbrev pub steps_around : List OpenGroup → List Step
steps_around [] = []
steps_around (o ∷ outer) = closes o.kind o.close_span ∷ (walk o.rest ++ steps_around outer)

-- the events that are left
abbrev pub steps_left : Events → List Step
steps_left w = walk w.here ++ steps_around (reverse w.around.items)

-- the first of the events was taken, if there was one, and the others are left
abbrev pub Gives : List Step → Option TokenEvent → List Step → Type 0
Gives old None new = (old ≡ []) × (new ≡ [])
Gives old (Some s) new = old ≡ step_of s ∷ new
