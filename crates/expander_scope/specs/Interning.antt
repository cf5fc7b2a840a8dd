-- Definitions in the table that finds them by their trees, and their ids.
use Rattle.std.specs.Prelude.{◌≡◌, ℕ, All, List, Option, Some, map, option_map}
use Rattle.std.specs.Global.{Global}
use Rattle.std.specs.HashMap.{get_by}
use Rattle.std.specs.Rc.{rc_value}
use Rattle.std.specs.declared.rc.Rc.{Rc}
use Rattle.tt.specs.Tops.{Top}
use Rattle.tt_data.specs.Forest.{Forest}
use Rattle.tt_data.specs.declared.edition.Edition.{Edition}
use Rattle.expander_scope.specs.Editions.{IsRead}
use Rattle.expander_model.specs.HashedTrees.{own_top}
use Rattle.expander_model.specs.EqualTrees.{same_top}
use Rattle.expander_scope.specs.declared.interner.Interner.{Interner}
use Rattle.expander_scope.specs.declared.macro_def.MacroDef.{MacroDef}

-- the definition that the table has for a tree
unfoldable pub known_in : Interner → Top → Option MacroDef
known_in table t = option_map (λ k. k.value) (get_by (λ k. same_top t k.value) table.map)

-- the table has each of these definitions for its tree
abbrev pub AreInTable : Interner → List (Rc MacroDef Global) → Type 0
AreInTable table knowns =
    All (λ (k : Rc MacroDef Global). known_in table (rc_value k).tree ≡ Some (rc_value k)) knowns

-- the id that the table has for a tree
abbrev pub numbers_in : Interner → Forest → Option ℕ
numbers_in table f = option_map (λ (k : MacroDef). k.number) (known_in table (own_top f))

-- the definition that the table has for a tree is of that tree
abbrev pub IsTable : Interner → Type 0
IsTable table = (t : Top) (k : MacroDef) → known_in table t ≡ Some k → k.tree ≡ t

-- each definition has its rules, all its identifiers being of this edition
abbrev pub AllRead : Edition → Interner → Type 0
AllRead edition table = (t : Top) (k : MacroDef) → known_in table t ≡ Some k → IsRead edition k

-- the trees of definitions
abbrev pub definition_tops : List (Rc MacroDef Global) → List Top
definition_tops knowns = map (λ (k : Rc MacroDef Global). (rc_value k).tree) knowns
