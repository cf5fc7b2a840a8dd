-- The modules of a crate by numbers, in the order in which they begin. (Of this project.)
use Rattle.std.specs.Prelude.{ℕ, List, [], ◌∷◌, ◌++◌, length, Option, Some, None, fold}
use Rattle.crate_imports.specs.declared.tree.Declared.{Declared}
use Rattle.crate_imports.specs.declared.tree.Growing.{Growing}
use Rattle.crate_imports.specs.declared.tree.Tree.{Tree}
use Rattle.crate_walk.specs.declared.step.Place.{Place}
use Rattle.crate_walk.specs.declared.step.Step.{Step}
use Rattle.crate_walk.specs.declared.step.Step.TheVariants as step

-- the module around each module, the file of each, the items of all in order, and the modules that
-- are begun, the innermost first
pub record Modules : Type 0 where
  pub parents : List (Option ℕ)
  pub files : List ℕ
  pub declared : List Declared
  pub begun : List ℕ

-- an item is passed, which is the module of this number if it is one
abbrev pub passed : Modules → Place → Option ℕ → List ℕ → List Declared
passed m p child [] = m.declared
passed m p child (k ∷ ks) =
    m.declared ++ record { within = k; place = p; child = child } ∷ []

-- the innermost of some modules
abbrev pub innermost : List ℕ → Option ℕ
innermost [] = None
innermost (k ∷ ks) = Some k

-- the modules around that
abbrev pub outer : List ℕ → List ℕ
outer [] = []
outer (k ∷ ks) = ks

-- a module begins, which is in this file
abbrev pub begins : Modules → Place → ℕ → Modules
begins m p file = record {
  parents = m.parents ++ innermost m.begun ∷ [];
  files = m.files ++ file ∷ [];
  declared = passed m p (Some (length m.parents)) m.begun;
  begun = length m.parents ∷ m.begun;
}

-- behind a step
abbrev pub behind : Modules → Step → Modules
behind m (step.Item p) = record m { declared = passed m p None m.begun }
behind m (step.Inline p) = begins m p p.file
behind m (step.File p k) = begins m p k
behind m (step.Lack p why) = m
behind m step.End = record m { begun = outer m.begun }

-- the root, which is the module 0
abbrev pub at_root : Modules
at_root = record { parents = None ∷ []; files = 0 ∷ []; declared = []; begun = 0 ∷ [] }

-- the modules behind these steps
abbrev pub modules_of : List Step → Modules
modules_of steps = fold behind at_root steps

-- modules in a tree
abbrev pub held : Tree → List ℕ → Modules
held t begun = record {
  parents = t.parents.items;
  files = t.files.items;
  declared = t.declared.items;
  begun = begun;
}

abbrev pub grown : Growing → Modules
grown g = held g.tree g.begun.items
