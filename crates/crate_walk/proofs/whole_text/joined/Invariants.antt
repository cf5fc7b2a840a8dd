-- What the steps so far have written, and what those that are left will write.
use Rattle.std.proofs.Common.{◌≡◌, [], ◌∷◌, ◌++◌, drop}
use Rattle.crate_walk.specs.Joining.{root_part, written}
use Rattle.crate_walk.proofs.whole_text.joined.Given as goal

abbrev pub invariant-loop-step : goal.invariant-loop-step
invariant-loop-step l =
    l.out.items ++ written l.texts l.parts.items (drop l.step-index l.steps)
    ≡ written l.texts (root_part ∷ []) l.steps
