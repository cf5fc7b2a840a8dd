-- The tables of a tree's anchors while they are replaced.
use Rattle.std.specs.Prelude.{◌≡◌, ℕ, List, [], Some, None, nat_eq, if◌then◌else◌}
use Rattle.std.specs.HashMap.{HashMap, get}
use Rattle.std.specs.List.{list_any, IsDistinct}
use Rattle.tt.specs.declared.top_subtree.relabel.Anchors.{Anchors}
use Rattle.tt.specs.Relabelling.{renamed}

-- a table has exactly these anchors, with what the entries say of each
abbrev pub Tells : {S : Type 0} → List ℕ → List (ℕ × ℕ) → HashMap ℕ ℕ S → Type 0
Tells met entries answers = (a : ℕ) → get nat_eq answers a ≡ (if list_any (nat_eq a) met then Some (renamed entries a) else None)

-- each anchor that occurred is there once, and is replaced by itself
abbrev pub StandForThemselves : Anchors → Type 0
StandForThemselves t = IsDistinct nat_eq t.met.items × Tells t.met.items [] t.answers
