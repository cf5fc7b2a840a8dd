-- How the tree of a definition of another crate is built.
use Rattle.std.specs.Prelude.{◌≡◌, ◌<◌, ◌⊎◌, ℕ, List}
use Rattle.tt.specs.Building.{Building, extended}
use Rattle.tt_data.specs.Forest.{Forest, joined, size}
use Rattle.tt_data.specs.fault.TtFault.{TtFault}
use Rattle.tt_data.specs.fault.TtFault.TheVariants as fault
use Rattle.expander_sources.specs.Rooting.{rooted}

-- these trees were added to the innermost list
abbrev pub Adds : Building → Building → Forest → Type 0
Adds old new f = new ≡ extended old f

-- the first trees were added, rooted: these are left
pub record PutsRooted (root : List ℕ) (trees left : Forest) (old new : Building) : Type 0 where
  pub front : Forest
  pub are : rooted root trees ≡ joined front (rooted root left)
  pub added : new ≡ extended old front
  pub shorter : size left < size trees

-- a tree was not built: for want of memory, or since it has too many tokens
abbrev pub IsBuildFault : TtFault → Type 0
IsBuildFault e = (e ≡ fault.Memory) ⊎ (e ≡ fault.Tokens)
