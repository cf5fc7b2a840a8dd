-- Names of modules in a table.
use Rattle.std.specs.Prelude.{ℕ, List, Option, String, option_and_then}
use Rattle.std.specs.BTreeMap.{BTreeMap, get_by_text}
use Rattle.std.specs.Global.{Global}
use Rattle.std.specs.List.{slice_get}
use Rattle.crate_imports.specs.Names.{Names}
use Rattle.crate_imports.specs.declared.table.Table.{Table}
use Rattle.crate_imports.specs.declared.target.Target.{Target}

-- what maps have, one for each module
abbrev pub names_in : List (BTreeMap (String Global) Target) → Names
names_in maps k name = option_and_then (λ m. get_by_text m name) (slice_get maps k)

-- what a table has
abbrev pub looked_up : Table → Names
looked_up t = names_in t.names.items
