-- The table of the files that were read.
use Rattle.std.specs.Prelude.{◌≡◌, ℕ, ◌<◌, ◌≤◌, List, [], ◌∷◌, ◌++◌, length, Some}
use Rattle.std.specs.List.{slice_get}
use Rattle.crate_walk.specs.Files.{Files, files_in}
use Rattle.crate_walk.specs.declared.files.Content.{Content}
use Rattle.crate_walk.specs.declared.table.Table.{Table}

-- later files: those that were read before are among them
pub record AreMore (old new : Files) : Type 0 where
  pub names : (k : ℕ) (n : List ℕ) → slice_get old.names k ≡ Some n → slice_get new.names k ≡ Some n
  pub contents : (k : ℕ) → k < length old.contents
      → slice_get new.contents k ≡ slice_get old.contents k
  pub count : length old.contents ≤ length new.contents

-- each file has a name of its own, and what reading it by that can give
pub record IsTable (reads : List ℕ → Content → Type 0) (files : Files) : Type 0 where
  pub count : length files.names ≡ length files.contents
  pub read : (k : ℕ) (n : List ℕ) (c : Content) → slice_get files.names k ≡ Some n
      → slice_get files.contents k ≡ Some c → reads n c
  pub once : (j k : ℕ) (n : List ℕ) → slice_get files.names j ≡ Some n
      → slice_get files.names k ≡ Some n → j ≡ k

-- this is the number of the file of this name, which may have been added
pub record AddsOrFinds (old new : Files) (name : List ℕ) (k : ℕ) : Type 0 where
  pub more : AreMore old new
  pub named : slice_get new.names k ≡ Some name
  pub known : k < length new.contents

-- the file of this number has this name
abbrev pub HasName : Table → ℕ → List ℕ → Type 0
HasName t k name = slice_get (files_in t).names k ≡ Some name

-- a file was added last
pub record Adds (old new : Table) (name : List ℕ) (content : Content) (k : ℕ) : Type 0 where
  pub names : (files_in new).names ≡ (files_in old).names ++ name ∷ []
  pub contents : (files_in new).contents ≡ (files_in old).contents ++ content ∷ []
  pub number : k ≡ length (files_in old).contents
