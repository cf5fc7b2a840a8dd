-- Imports as events.
use Rattle.std.specs.Prelude.{ℕ, List, map, option_map, string_bytes, String, Vec}
use Rattle.std.specs.Global.{Global}
use Rattle.crate_items.specs.Imports.{Import, Use}
use Rattle.crate_items.specs.declared.imports.Use as at
use Rattle.crate_walk.specs.declared.event.ImportItem.{ImportItem}

-- the texts of some names
abbrev pub names_in : Vec (String Global) Global → List (List ℕ)
names_in path = map string_bytes path.items

-- a name from elsewhere
abbrev pub import_of : ImportItem → Import
import_of i = record {
  path = names_in i.path;
  is_global = i.is_global;
  name = option_map string_bytes i.name;
  is_public = i.is_public;
  range = record { start = i.start; «end» = i.«end» };
}

-- a `use`
abbrev pub use_of : at.Use → Use
use_of u = record { is_global = u.is_global; is_public = u.is_public }
