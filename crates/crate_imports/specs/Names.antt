-- What names of modules stand for. (Of this project.)
use Rattle.std.specs.Prelude.{ℕ, ◌&&◌, nat_eq, List, Option, Some, None, if◌then◌else◌}
use Rattle.std.specs.Option.{option_or}
use Rattle.std.specs.Str.{bytes_eq}
use Rattle.crate_imports.specs.declared.target.Target.{Target}

-- what each name of each module stands for
abbrev pub Names : Type 0
Names = ℕ → List ℕ → Option Target

-- no name stands for anything
abbrev pub empty : Names
empty k name = None

-- a name of a module stands for this, and all others for the same as before
abbrev pub put : Names → ℕ → List ℕ → Target → Names
put names at word target k name =
    if nat_eq at k && bytes_eq word name then Some target else names k name

-- the same if there is something to stand for
abbrev pub put_if : Names → ℕ → List ℕ → Option Target → Names
put_if names at word None = names
put_if names at word (Some target) = put names at word target

-- the names of a module that stood for nothing stand for what they do in others
abbrev pub filled : Names → ℕ → (List ℕ → Option Target) → Names
filled names at more k name =
    if nat_eq at k then option_or (names k name) (more name) else names k name
