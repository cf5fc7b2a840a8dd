-- What sinks take: events of an output, in order.
use Rattle.std.specs.Prelude.{List, ◌++◌}
use Rattle.expander_model.specs.Expansion.{PlacedStep}

-- these events were taken after all earlier ones, where `Has` tells which a sink has taken
abbrev pub TakesMore : {S : Type 0} → (S → List PlacedStep → Type 0) → S → S → List PlacedStep
    → Type 0
TakesMore Has old new steps = (before : List PlacedStep) → Has old before
    → Has new (before ++ steps)
