-- What metavariables stand for in a call, iteration by iteration. (Of this project.)
use Rattle.std.specs.Prelude.{ℕ, suc, List, [], ◌∷◌, ◌++◌, flat_map, Option, Some, None}
use Rattle.tt_data.specs.Forest.{Forest}
use Rattle.mbe_rules.specs.declared.parser.MetaVarKind.{MetaVarKind}
use Rattle.mbe_matcher.specs.Bindings.{Binding, Map, Values, fragment, no_more}
use Rattle.mbe_matcher.specs.Bindings.{rounds, skipped, value}

-- what a name stands for in one iteration: the numbers, from 0, of the iterations that it is in,
-- from the outermost, and a fragment with its kind; none if its repetition has no iteration here
pub record BoundValue : Type 0 where
  pub name : List ℕ
  pub iterations : List ℕ
  pub fragment : Option (MetaVarKind × Forest)

-- one such value alone
abbrev pub one_value : List ℕ → List ℕ → Option (MetaVarKind × Forest) → List BoundValue
one_value n around f = record { name = n; iterations = around; fragment = f } ∷ []

abbrev mutual
  -- what a name stands for by a binding, inside these iterations
  pub values_in : List ℕ → List ℕ → Binding → List BoundValue
  values_in n around (fragment k f) = one_value n around (Some (k, f))
  values_in n around (rounds no_more) = one_value n around None
  values_in n around (rounds (value b vs)) =
      values_in n (around ++ (0 ∷ [])) b ++ values_from n around 1 vs
  values_in n around skipped = one_value n around None

  -- that by the values of iterations, the first of which has this number
  pub values_from : List ℕ → List ℕ → ℕ → Values → List BoundValue
  values_from n around i no_more = []
  values_from n around i (value b vs) =
      values_in n (around ++ (i ∷ [])) b ++ values_from n around (suc i) vs

-- what the names of a map stand for, name after name
abbrev pub map_values : Map → List BoundValue
map_values m = flat_map (λ e. values_in e.0 [] e.1) m
