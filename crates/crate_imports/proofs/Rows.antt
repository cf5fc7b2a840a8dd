-- Worked examples.
use Rattle.std.proofs.Common.{◌≡◌, ℕ, List, [], ◌∷◌, Option, Some, None, codes, refl}
use Rattle.crate_imports.specs.Names.{Names, empty, filled, put}
use Rattle.crate_imports.specs.Paths.{reached}
use Rattle.crate_imports.specs.Trees.{modules_of}
use Rattle.crate_imports.specs.declared.target.Target.TheVariants as target
use Rattle.crate_walk.specs.declared.step.Place.{Place}
use Rattle.crate_walk.specs.declared.step.Step.{Step}
use Rattle.crate_walk.specs.declared.step.Step.TheVariants as step

-- ---- modules by numbers

-- an event of a file
at : ℕ → ℕ → Place
at file i = record { file = file; event = i }

-- `mod a { mod b; } mod c;` in the root, where `b` is the file 1 and `c` the file 2
unfoldable three : List Step
three = step.Inline (at 0 0) ∷ step.File (at 0 1) 1 ∷ step.End ∷ step.End ∷ step.File (at 0 2) 2 ∷ step.End ∷ step.End ∷ []

-- the module 1 is `a`, and 2 is in it
around : (modules_of three).parents ≡ None ∷ Some 0 ∷ Some 1 ∷ Some 0 ∷ []
unfolding three at
around = refl

-- `a` is in the file of the root
in_files : (modules_of three).files ≡ 0 ∷ 0 ∷ 1 ∷ 2 ∷ []
unfolding three at
in_files = refl

-- all have ended
ended : (modules_of three).begun ≡ []
unfolding three at
ended = refl

-- ---- paths

parents : List (Option ℕ)
parents = None ∷ Some 0 ∷ Some 1 ∷ Some 0 ∷ []

-- what `a`, `b` and `c` stand for there
unfoldable names : Names
names = put (put (put empty 0 (codes "a") (target.Module 1)) 1 (codes "b") (target.Module 2)) 0 (codes "c") (target.Module 3)

-- `a::b` in the root
down : reached parents names 0 (codes "a" ∷ codes "b" ∷ []) ≡ Some 2
unfolding names parents
down = refl

-- `super::super::c` in `b`
up : reached parents names 2 (codes "super" ∷ codes "super" ∷ codes "c" ∷ []) ≡ Some 3
unfolding names parents
up = refl

-- `crate::a::self` in `c`
from_the_root : reached parents names 3 (codes "crate" ∷ codes "a" ∷ codes "self" ∷ []) ≡ Some 1
unfolding names parents
from_the_root = refl

-- `super` in the root, and `b` there, lead nowhere
nowhere : reached parents names 0 (codes "super" ∷ []) ≡ None
unfolding names parents
nowhere = refl

unknown : reached parents names 0 (codes "b" ∷ []) ≡ None
unfolding names parents
unknown = refl

-- ---- names by `*`

-- what is named wins over what comes by `*`, which brings the rest
named_wins : filled (put empty 0 (codes "a") (target.Module 1)) 0 (λ n. Some (target.Module 2)) 0 (codes "a") ≡ Some (target.Module 1)
named_wins = refl

all_else : filled (put empty 0 (codes "a") (target.Module 1)) 0 (λ n. Some (target.Module 2)) 0 (codes "b") ≡ Some (target.Module 2)
all_else = refl
