-- Steps in which each module ends that begins.
use Rattle.std.specs.Prelude.{ℕ, zero, suc, Bool, true, false, List, [], ◌∷◌}
use Rattle.crate_walk.specs.declared.step.Step.{Step}
use Rattle.crate_walk.specs.declared.step.Step.TheVariants as step

-- steps are all that is left where so many modules are begun: each of them ends, the last of them
-- at the last step
abbrev pub closes : ℕ → List Step → Bool
closes zero [] = true
closes zero (s ∷ steps) = false
closes (suc n) [] = false
closes (suc n) (step.Item p ∷ steps) = closes (suc n) steps
closes (suc n) (step.Lack p why ∷ steps) = closes (suc n) steps
closes (suc n) (step.Inline p ∷ steps) = closes (suc (suc n)) steps
closes (suc n) (step.File p k ∷ steps) = closes (suc (suc n)) steps
closes (suc n) (step.End ∷ steps) = closes n steps
