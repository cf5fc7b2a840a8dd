-- Ids of definitions: equal trees have one id, kept from one text that was read to the next.
use Rattle.std.specs.Prelude.{◌≢◌, ℕ, ◌+◌, ◌≤◌, All, List, [], ◌∷◌, Option, Some, None}
use Rattle.std.specs.Prelude.{if◌then◌else◌, unwrap_or}
use Rattle.tt_data.specs.Forest.{Forest}
use Rattle.expander_model.specs.EqualTrees.{same_forest}

-- a tree and its id
pub record Entry : Type 0 where
  pub tree : Forest
  pub number : ℕ

-- the ids so far: how many were given, and which trees have which
pub record Numbering : Type 0 where
  pub given : ℕ
  pub entries : List Entry

-- the id that a tree has, or none
abbrev pub number_in : List Entry → Forest → Option ℕ
number_in [] t = None
number_in (e ∷ more) t = if same_forest t e.tree then Some e.number else number_in more t

-- the id that a tree has, or 0 if it has none
abbrev pub number_of : List Entry → Forest → ℕ
number_of entries t = unwrap_or (number_in entries t) 0

-- the ids with one for this tree: the one that it has already, or else a new one
abbrev pub with_number : Numbering → Forest → Option ℕ → Numbering
with_number n t (Some k) = n
with_number n t None =
    record { given = 1 + n.given; entries = record { tree = t; number = 1 + n.given } ∷ n.entries }

-- the ids once these trees have theirs, new ones where they need any
abbrev pub with_trees : Numbering → List Forest → Numbering
with_trees n [] = n
with_trees n (t ∷ more) = with_trees (with_number n t (number_in n.entries t)) more

-- the tree of an entry
abbrev pub tree_of : Entry → Forest
tree_of e = e.tree

-- the ids are from 1 to the number given, and each is of one entry
abbrev pub AreEntries : ℕ → List Entry → Type 0
AreEntries given [] = Unit {0}
AreEntries given (e ∷ more) = (1 ≤ e.number) × (e.number ≤ given)
    × All (λ (x : Entry). x.number ≢ e.number) more × AreEntries given more
