-- What names of modules stand for, by what they stood for before. (The Rust Reference, "Use
-- declarations" and "Macros By Example": path-based scope.)
use Rattle.std.specs.Prelude.{ℕ, zero, suc, ◌==◌, ◌-◌, List, [], length, map, take, fold, Option, Some, None, option_map, string_bytes, unwrap_or, if◌then◌else◌}
use Rattle.std.specs.List.{slice_get}
use Rattle.std.specs.Option.{option_or}
use Rattle.crate_imports.specs.Names.{Names, empty, filled, put, put_if}
use Rattle.crate_imports.specs.Paths.{reached}
use Rattle.crate_imports.specs.Tables.{looked_up}
use Rattle.crate_imports.specs.declared.round.Known.{Known}
use Rattle.crate_imports.specs.declared.target.Target.{Target}
use Rattle.crate_imports.specs.declared.target.Target.TheVariants as target
use Rattle.crate_imports.specs.declared.tree.Declared.{Declared}
use Rattle.crate_walk.specs.Files.{Files, event_of}
use Rattle.crate_walk.specs.declared.event.Event.{Event}
use Rattle.crate_walk.specs.declared.event.Event.TheVariants as event
use Rattle.crate_walk.specs.declared.event.ImportItem.{ImportItem}
use Rattle.crate_walk.specs.declared.event.MacroItem.{MacroItem}
use Rattle.crate_walk.specs.declared.event.ModuleItem.{ModuleItem}

-- what names stand for: as macros, as modules, and the `macro_rules` that stand in the module
-- itself, which paths do not find
pub record Offered : Type 0 where
  pub macros : Names
  pub modules : Names
  pub rules : Names

abbrev pub nothing : Offered
nothing = record { macros = empty; modules = empty; rules = empty }

abbrev pub names_of : Known → Offered
names_of k = record {
  macros = looked_up k.macros;
  modules = looked_up k.modules;
  rules = looked_up k.rules;
}

-- a definition: a `macro` is a name of its module, an exported `macro_rules` one of the root
abbrev pub behind_macro : Offered → MacroItem → Declared → Offered
behind_macro o m at =
    if m.is_macro
    then record o { macros = put o.macros at.within (string_bytes m.name) (target.Macro at.place) }
    else record o {
      macros = if m.is_exported
          then put o.macros 0 (string_bytes m.name) (target.Macro at.place) else o.macros;
      rules = put o.rules at.within (string_bytes m.name) (target.Macro at.place);
    }

-- a module is a name of the module around it
abbrev pub behind_module : Offered → ModuleItem → Option ℕ → ℕ → Offered
behind_module o m None within = o
behind_module o m (Some k) within =
    record o { modules = put o.modules within (string_bytes m.name) (target.Module k) }

-- the names of the path of an import, and the last of them
abbrev pub path_of : ImportItem → List (List ℕ)
path_of i = map string_bytes i.path.items

abbrev pub last_name : ImportItem → List ℕ
last_name i =
    unwrap_or (option_map string_bytes (slice_get i.path.items (length i.path.items - 1))) []

-- the module to which a path leads from a module: none where it begins with `::`
abbrev pub led : List (Option ℕ) → Names → ImportItem → ℕ → List (List ℕ) → Option ℕ
led parents modules i at names = if i.is_global then None else reached parents modules at names

-- the module in which an import looks for its last name
abbrev pub path_to : List (Option ℕ) → Names → ImportItem → ℕ → Option ℕ
path_to parents modules i at =
    led parents modules i at (map string_bytes (take (length i.path.items - 1) i.path.items))

-- what an import brings as a macro from the module that its path leads to; where none is reached,
-- what the path leads to in another crate. A single name is first sought in the module itself
abbrev pub macro_target : Names → Names → ImportItem → Declared → Option ℕ → Option Target
macro_target macros rules i at None = Some (target.Other at.place)
macro_target macros rules i at (Some k) =
    if length i.path.items == 1
    then option_or (rules at.within (last_name i)) (macros k (last_name i))
    else macros k (last_name i)

-- what it brings as a module
abbrev pub module_target : Names → ImportItem → Option ℕ → Option Target
module_target modules i None = None
module_target modules i (Some k) = modules k (last_name i)

-- an import of all names of a module, which were these in the round before: they are farther than
-- all others
abbrev pub with_all : Offered → Offered → ℕ → Option ℕ → Offered
with_all k o within None = o
with_all k o within (Some j) = record o {
  macros = filled o.macros within (k.macros j);
  modules = filled o.modules within (k.modules j);
}

-- the state before is `o`, and what is known from the round before is `k`
module _ (parents : List (Option ℕ)) (k : Offered) where
  -- an import of one name
  abbrev pub behind_name : Offered → ImportItem → List ℕ → Declared → Offered
  behind_name o i name at = record o {
    macros = put_if o.macros at.within name
        (macro_target k.macros o.rules i at (path_to parents k.modules i at.within));
    modules = put_if o.modules at.within name
        (module_target k.modules i (path_to parents k.modules i at.within));
  }

  abbrev pub behind_import : Offered → ImportItem → Option (List ℕ) → Declared → Offered
  behind_import o i (Some name) at = behind_name o i name at
  behind_import o i None at =
      with_all k o at.within (led parents k.modules i at.within (path_of i))

  abbrev pub behind_event : Offered → Declared → Event → Offered
  behind_event o at (event.Macro m) = behind_macro o m at
  behind_event o at (event.Outline m) = behind_module o m at.child at.within
  behind_event o at (event.Inline m n) = behind_module o m at.child at.within
  behind_event o at (event.Import i) = behind_import o i (option_map string_bytes i.name) at
  behind_event o at (event.Crate c) = o
  behind_event o at event.MacroUse = o

  abbrev pub behind_found : Offered → Declared → Option Event → Offered
  behind_found o at None = o
  behind_found o at (Some e) = behind_event o at e

  -- one item of a crate with these files
  abbrev pub behind_item : Files → Offered → Declared → Offered
  behind_item files o at = behind_found o at (event_of files at.place)

-- what names stand for after one round more, over all items
abbrev pub after_round : Files → List (Option ℕ) → List Declared → Offered → Offered
after_round files parents items k = fold (behind_item parents k files) nothing items

-- and after so many rounds
unfoldable pub after_rounds : ℕ → Files → List (Option ℕ) → List Declared → Offered
after_rounds zero files parents items = nothing
after_rounds (suc n) files parents items =
    after_round files parents items (after_rounds n files parents items)
