-- The value of what is left in the iterations that are left is the value in all.
use Rattle.std.proofs.Common.{◌≡◌, length, option_and_then, option_map}
use Rattle.mbe_matcher.specs.Bound.{standing_for}
use Rattle.mbe_transcriber.specs.Filling.{value_in}
use Rattle.rule_bindings.proofs.unequal.iterations_in.Given as given

abbrev pub invariant-loop-here : given.invariant-loop-here
invariant-loop-here l =
    option_and_then (value_in l.left) (option_map (λ b. standing_for b.now) l.here)
    ≡ value_in l.rounds (standing_for l.binding)

abbrev pub decreases-loop-here : given.decreases-loop-here
decreases-loop-here l = length l.left
