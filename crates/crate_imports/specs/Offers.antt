-- The macros that the modules of a crate offer by path. (Of this project.)
use Rattle.std.specs.Prelude.{◌≡◌, List}
use Rattle.crate_imports.specs.Rounds.{Offered, after_rounds}
use Rattle.crate_imports.specs.Trees.{held, modules_of}
use Rattle.crate_imports.specs.declared.tree.Tree.{Tree}
use Rattle.crate_walk.specs.Files.{Files}
use Rattle.crate_walk.specs.declared.step.Step.{Step}

-- a tree has the modules of these steps
abbrev pub IsTreeOf : List Step → Tree → Type 0
IsTreeOf steps t = held t (modules_of steps).begun ≡ modules_of steps

-- what names of modules stand for: so many imports are followed one after another
abbrev pub offered : Files → List Step → Offered
offered files steps =
    after_rounds 8 files (modules_of steps).parents (modules_of steps).declared
