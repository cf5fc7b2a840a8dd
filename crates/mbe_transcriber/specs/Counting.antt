-- What is left to count of values in one another.
use Rattle.std.specs.Prelude.{◌≡◌, ℕ, suc, ◌+◌, ◌*◌, List, [], ◌∷◌, length}
use Rattle.mbe_matcher.specs.Bound.{values_of}
use Rattle.mbe_matcher.specs.Counts as all
use Rattle.mbe_transcriber.specs.Filling.{count_values}
use Rattle.mbe_transcriber.specs.declared.metavar_expr.Amount.{Amount}
use Rattle.mbe_transcriber.specs.declared.metavar_expr.Amount.TheVariants.{Nothing, Values, Inside}
use Rattle.mbe_transcriber.specs.declared.metavar_expr.Left.{Left}

-- what these values count for
abbrev pub left_sum : Left → ℕ
left_sum l = count_values (suc l.depth) (values_of l.values.now)

-- what a binding counts for
abbrev pub amount_of : Amount → ℕ
amount_of Nothing = 0
amount_of (Values vs) = length vs.now
amount_of (Inside l) = left_sum l

-- what the lists around the present one count for
abbrev pub around_sum : List Left → ℕ
around_sum [] = 0
around_sum (l ∷ outer) = left_sum l + around_sum outer

-- a list inside a binding that has n values, itself included
abbrev pub IsFewer : ℕ → Amount → Type 0
IsFewer n Nothing = Unit {0}
IsFewer n (Values vs) = Unit {0}
IsFewer n (Inside l) = n ≡ suc (all.count_values (values_of l.values.now))

-- how much is left to do: two for each value, and one for leaving the list
abbrev pub weight : Left → ℕ
weight l = suc (2 * all.count_values (values_of l.values.now))

-- how much is left to do in the lists around
abbrev pub weight_around : List Left → ℕ
weight_around [] = 0
weight_around (l ∷ outer) = weight l + weight_around outer
