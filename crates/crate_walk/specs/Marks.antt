-- A scope as its places, with a mark for each module that is begun.
use Rattle.std.specs.Prelude.{◌≡◌, ◌≤◌, List, [], ◌∷◌, length, map, take}
use Rattle.std.specs.Global.{Global}
use Rattle.std.specs.Prelude.{Vec}
use Rattle.crate_walk.specs.Scopes.{FilePicks, Begun, Scope}
use Rattle.crate_walk.specs.declared.scope.Mark.{Mark}
use Rattle.crate_walk.specs.declared.scope.Marked.{Marked}
use Rattle.crate_walk.specs.declared.scope.Picks.{Picks}
use Rattle.crate_walk.specs.declared.step.Place.{Place}

-- each mark is of the module that is begun: so many places were in scope before it
abbrev pub AreMarks : List Place → List Mark → List Begun → Type 0
AreMarks places [] [] = Unit {0}
AreMarks places [] (o ∷ os) = ⊥
AreMarks places (m ∷ ms) [] = ⊥
AreMarks places (m ∷ ms) (o ∷ os) =
    (take m.from places ≡ o.before) × (m.from ≤ length places) × (m.keeps ≡ o.keeps)
    × (m.file ≡ o.file) × AreMarks o.before ms os

-- a scope is stored so
pub record IsMarked (m : Marked) (s : Scope) : Type 0 where
  pub places : m.places.items ≡ s.places
  pub marks : AreMarks s.places m.marks.items s.begun

-- the definitions of other files that a file sees
abbrev pub file_picks : Picks → FilePicks
file_picks p = record { file = p.file; places = p.places.items }

abbrev pub all_picks : Vec Picks Global → List FilePicks
all_picks p = map file_picks p.items
