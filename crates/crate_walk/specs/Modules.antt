-- The modules of a crate.
use Rattle.std.specs.Prelude.{ℕ, List, Option, Some, None}
use Rattle.crate_walk.specs.Files.{Files}
use Rattle.crate_walk.specs.Files.{files_in}
use Rattle.crate_walk.specs.Walks.{IsWalk}
use Rattle.crate_walk.specs.declared.files.Content.{Content}
use Rattle.crate_walk.specs.declared.modules.Modules.{Modules}
use Rattle.crate_walk.specs.declared.step.Step.{Step}

-- the files that were read
abbrev pub files_of : Modules → Files
files_of m = files_in m.table

-- the steps of the walk
abbrev pub steps_of : Modules → List Step
steps_of m = m.steps.items

-- these are the modules of a crate with this root: none if there is no such file
abbrev pub AreModules : (List ℕ → Option (List ℕ) → Type 0) → (List ℕ → Content → Type 0)
    → List ℕ → ℕ → Option Modules → Type 0
AreModules finds reads root most None = finds root None
AreModules finds reads root most (Some m) = IsWalk finds reads root most (files_of m) (steps_of m)
