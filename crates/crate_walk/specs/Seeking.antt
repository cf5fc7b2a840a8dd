-- The search for the file of a module. (The Rust Reference, "Modules": module source filenames.)
use Rattle.std.specs.Prelude.{◌≡◌, ℕ, List, Option, Some, None, option_map, string_bytes}
use Rattle.crate_walk.specs.Folders.{Folder, by_folder, by_name, by_path}
use Rattle.crate_walk.specs.declared.event.ModuleItem.{ModuleItem}
use Rattle.crate_walk.specs.declared.sought.Sought.{Sought}
use Rattle.crate_walk.specs.declared.sought.Sought.TheVariants.{Missing, Ambiguous, Found}

-- what is found out: there is no file, there are two, or the name of the one, and where the files
-- of the modules in it are looked for
pub data Finding : Type 0 where
  missing : Finding
  ambiguous : Finding
  found : List ℕ → Folder → Finding

-- where one path was asked for
abbrev pub only : Option (List ℕ) → Folder → Finding
only None folder = missing
only (Some name) folder = found name folder

-- where two were
abbrev pub choice : Option (List ℕ) → Folder → Option (List ℕ) → Folder → Finding
choice None f b g = only b g
choice (Some name) f None g = found name f
choice (Some name) f (Some other) g = ambiguous

-- `finds` says how a path can be answered: by the name of the file that it leads to, or none
module _ (finds : List ℕ → Option (List ℕ) → Type 0) where
  -- the file that a `path` attribute names
  abbrev pub IsSoughtByPath : Folder → List ℕ → Finding → Type 0
  IsSoughtByPath folder path s =
      (a : Option (List ℕ)) × finds (by_path folder path).0 a
      × (s ≡ only a (by_path folder path).1)

  -- `name.rs` or `name/mod.rs`
  abbrev pub IsSoughtByName : Folder → List ℕ → Finding → Type 0
  IsSoughtByName folder name s =
      (a : Option (List ℕ)) × (b : Option (List ℕ))
      × finds (by_name folder name).0 a × finds (by_folder folder name).0 b
      × (s ≡ choice a (by_name folder name).1 b (by_folder folder name).1)

  -- this is found out about the file of a module
  abbrev pub IsSoughtBy : Folder → List ℕ → Option (List ℕ) → Finding → Type 0
  IsSoughtBy folder name None s = IsSoughtByName folder name s
  IsSoughtBy folder name (Some path) s = IsSoughtByPath folder path s

  abbrev pub IsSought : Folder → ModuleItem → Finding → Type 0
  IsSought folder m = IsSoughtBy folder (string_bytes m.name) (option_map string_bytes m.path)

-- what the code has found out
abbrev pub seen : Sought → Finding
seen Missing = missing
seen Ambiguous = ambiguous
seen (Found name folder) = found (string_bytes name) folder
