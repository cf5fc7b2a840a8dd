-- The use of what is left in the iterations that are left is the use in all.
use Rattle.std.proofs.Common.{◌≡◌, ℕ, [], ◌∷◌, ◌++◌, length, option_map}
use Rattle.mbe_matcher.specs.Bound.{standing_for}
use Rattle.mbe_transcriber.specs.Filling.{use_in}
use Rattle.mbe_transcriber.proofs.repetition_vars.length_in.Given as goal

abbrev pub invariant-loop-here : goal.invariant-loop-here
invariant-loop-here l =
    (k : ℕ) → use_in (l.left ++ (k ∷ [])) (option_map (λ b. standing_for b.now) l.here) ≡ use_in (l.rounds ++ (k ∷ [])) (option_map (λ b. standing_for b.now) l.binding)

abbrev pub decreases-loop-here : goal.decreases-loop-here
decreases-loop-here l = length l.left
