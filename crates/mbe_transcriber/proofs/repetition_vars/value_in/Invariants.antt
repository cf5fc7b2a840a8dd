-- The value in the iterations that are left is the value in all.
use Rattle.std.proofs.Common.{◌≡◌, drop, option_map, option_and_then}
use Rattle.mbe_matcher.specs.Bound.{standing_for}
use Rattle.mbe_transcriber.specs.Filling.{value_in}
use Rattle.mbe_transcriber.proofs.repetition_vars.value_in.Given as goal

abbrev pub invariant-loop-number : goal.invariant-loop-number
invariant-loop-number l =
    option_and_then (value_in (drop l.number-index l.inner)) (option_map (λ b. standing_for b.now) l.here)
    ≡ option_and_then (value_in l.inner) (option_map (λ b. standing_for b.now) l.initial.here)
