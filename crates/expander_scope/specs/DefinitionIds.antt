-- Ids of the definitions of a text, given one after another.
use Rattle.std.specs.Prelude.{◌≡◌, ℕ, ◌+◌, ◌≤◌, List, Option, Some, is_some, unwrap_or}
use Rattle.std.specs.List.{list_any}
use Rattle.tt_data.specs.Forest.{Forest}
use Rattle.expander_model.specs.EqualTrees.{same_forest}
use Rattle.expander_model.specs.cfg_options.Conditions.{or_else}
use Rattle.expander_scope.specs.NewNumbers.{needed}

-- ids of trees: each is from 1 to the number given, and no two trees have the same
pub record AreNumbers (given : ℕ) (numbers : Forest → Option ℕ) : Type 0 where
  pub within : (t : Forest) (n : ℕ) → numbers t ≡ Some n → (1 ≤ n) × (n ≤ given)
  pub apart : (t u : Forest) (n : ℕ) → numbers t ≡ Some n → numbers u ≡ Some n → t ≡ u

-- exactly these trees have ids
abbrev pub HaveNumbers : (Forest → Option ℕ) → List Forest → Type 0
HaveNumbers numbers trees = (t : Forest) → is_some (numbers t) ≡ list_any (same_forest t) trees

-- the id that a tree has by the first of two functions, or else by the second
abbrev pub by_either : (Forest → Option ℕ) → (Forest → Option ℕ) → Forest → Option ℕ
by_either now old t = or_else (now t) (old t)

-- these trees have ids now: those that they had before, and new ones where they need any
pub record AreNumbered (old_given : ℕ) (old : Forest → Option ℕ) (known trees : List Forest)
    (given : ℕ) (now : Forest → Option ℕ) : Type 0 where
  pub numbers : AreNumbers given (by_either now old)
  pub stay : (t : Forest) (m n : ℕ) → now t ≡ Some m → old t ≡ Some n → m ≡ n
  pub have : HaveNumbers now trees
  pub given_is : given ≡ old_given + needed known trees

-- a tree and the id that it has
abbrev pub numbered_by : (Forest → Option ℕ) → Forest → ℕ → Type 0
numbered_by numbers t n = numbers t ≡ Some n

-- the id that a tree has, or 0 if it has none
abbrev pub number_by : (Forest → Option ℕ) → Forest → ℕ
number_by numbers t = unwrap_or (numbers t) 0
