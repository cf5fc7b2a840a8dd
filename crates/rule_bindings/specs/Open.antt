-- What is left to list inside of iterations that are open.
use Rattle.std.specs.Prelude.{ℕ, suc, ◌+◌, ◌-◌, ◌*◌, List, [], ◌∷◌, ◌++◌, map, Option, Some, None}
use Rattle.mbe_matcher.specs.Bindings.{Binding}
use Rattle.mbe_matcher.specs.Bound.{values_of}
use Rattle.mbe_matcher.specs.Counts.{count_of, count_values}
use Rattle.rule_bindings.specs.BoundValues.{BoundValue, values_from, values_in}
use Rattle.rule_bindings.specs.declared.open.Open.{Open}

-- the numbers of open iterations
abbrev pub numbers : List Open → List ℕ
numbers os = map (λ o. o.number) os

-- what a name stands for after these iterations, inside of others with such numbers
abbrev pub rest_values : List ℕ → List ℕ → List Open → List BoundValue
rest_values n around [] = []
rest_values n around (o ∷ os) =
    rest_values n (around ++ (o.number ∷ [])) os
    ++ values_from n around (suc o.number) (values_of o.rest.now)

-- what it stands for by a binding inside of these iterations, if there is one
abbrev pub here_values : List ℕ → List Open → Option Binding → List BoundValue
here_values n os None = []
here_values n os (Some b) = values_in n (numbers os) b

-- what it stands for by this binding and after the iterations
abbrev pub left_values : List ℕ → List Open → Option Binding → List BoundValue
left_values n os here = here_values n os here ++ rest_values n [] os

-- how much is left to do for a binding
abbrev pub weight_of : Option Binding → ℕ
weight_of None = 0
weight_of (Some b) = 2 * count_of b - 1

-- how much is left to do after these iterations: two for each value, and one for leaving each
abbrev pub weight_around : List Open → ℕ
weight_around [] = 0
weight_around (o ∷ os) = suc (2 * count_values (values_of o.rest.now)) + weight_around os
