-- How many definitions of a text get a new id: equal definitions share one.
use Rattle.std.specs.Prelude.{ℕ, ◌+◌, List, [], ◌∷◌, if◌then◌else◌}
use Rattle.std.specs.List.{list_any}
use Rattle.tt_data.specs.Forest.{Forest}
use Rattle.expander_model.specs.EqualTrees.{same_forest}

-- how many of the trees need a new id, where these have one: equal ones share it
abbrev pub needed : List Forest → List Forest → ℕ
needed known [] = 0
needed known (t ∷ more) = if list_any (same_forest t) known then needed known more
    else (1 + needed (t ∷ known) more)
