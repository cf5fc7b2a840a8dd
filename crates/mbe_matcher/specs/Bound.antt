-- What the bindings of the code stand for
use Rattle.std.specs.Prelude.{ℕ, suc, List, [], ◌∷◌, map, Option, Some, None, option_map, if◌then◌else◌}
use Rattle.tt.specs.Views.{forest}
use Rattle.mbe_rules.specs.Text.{same_text}
use Rattle.mbe_matcher.specs.Bindings as b
use Rattle.mbe_matcher.specs.Bindings.{Values, no_more, value, Map}
use Rattle.mbe_matcher.specs.declared.bindings.Binding.{Binding, Fragment, Rounds', Skipped, Row_of-Binding, end_of-Binding, more_of-Binding}
use Rattle.mbe_matcher.specs.declared.bindings.Bound.{Bound}
use Rattle.mbe_matcher.specs.declared.bindings.Bindings.{Bindings}

-- the value that a binding of the code stands for
abbrev mutual
  pub standing_for : Binding → b.Binding
  standing_for (Fragment k trees) = b.fragment k (forest trees)
  standing_for (Rounds' shape row) = b.rounds (row_values row)
  standing_for Skipped = b.skipped

  -- values of iterations, as a list has them
  pub row_values : {m : _} → Row_of-Binding m → Values
  row_values end_of-Binding = no_more
  row_values (more_of-Binding x row) = value (standing_for x) (row_values row)

-- the values that these bindings stand for
abbrev pub values_of : List Binding → Values
values_of [] = no_more
values_of (x ∷ xs) = value (standing_for x) (values_of xs)

-- a name with its value
abbrev pub entry_of : Bound → List ℕ × b.Binding
entry_of x = (x.name.now, standing_for x.binding)

-- names with their values
abbrev pub entries_of : List Bound → Map
entries_of xs = map entry_of xs

-- all that is bound
abbrev pub map_of : Bindings → Map
map_of b = entries_of b.bound.items

-- the index of a name
abbrev pub place_among : List ℕ → List Bound → Option ℕ
place_among n [] = None
place_among n (x ∷ xs) = if same_text n x.name.now then Some 0 else option_map suc (place_among n xs)
