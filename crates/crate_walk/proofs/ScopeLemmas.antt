-- Scopes that are stored as places with marks.
use Rattle.std.proofs.Common.{◌≡◌, drop-cons, suc, ℕ, ◌+◌, ◌<◌, Bool, true, List, [], ◌∷◌, ◌++◌, length, drop, get_or, sym, ap, ◌∙◌, subst, arith, append_assoc}
use Rattle.std.specs.Prelude.{if◌then◌else◌}
use Rattle.std.proofs.lemmas.List.{length-append, take-append-drop, take-append-le}
use Rattle.crate_walk.specs.Files.{Files}
use Rattle.crate_walk.specs.Marks.{AreMarks}
use Rattle.crate_walk.specs.Scopes.{Begun, FilePicks, Scope, after, ends, picks_at, picks_from}
use Rattle.crate_walk.specs.declared.scope.Mark.{Mark}
use Rattle.crate_walk.specs.declared.step.Place.{Place}
use Rattle.crate_walk.specs.declared.step.Step.{Step}

-- more places are in scope
pub marks_longer : (places more : List Place) (ms : List Mark) (os : List Begun)
    → AreMarks places ms os → AreMarks (places ++ more) ms os
marks_longer places more [] [] h = tt
marks_longer places more [] (o ∷ os) h = absurd h
marks_longer places more (m ∷ ms) [] h = absurd h
marks_longer places more (m ∷ ms) (o ∷ os) (from, within, keeps, file, outer) = (
  take-append-le m.from places more within ∙ from,
  simp length-append (omega (arith, within)),
  keeps,
  file,
  outer,
)

-- a module ends whose definitions stay in scope
pub marks_kept : (places : List Place) (m : Mark) (ms : List Mark) (os : List Begun)
    → AreMarks places (m ∷ ms) os → m.keeps ≡ true
    → ((ends places os).places ≡ places) × AreMarks places ms (ends places os).begun
marks_kept places m ms [] h is = absurd h
marks_kept places m ms (o ∷ os) (from, within, keeps, file, outer) is = (
  ap (λ (b : Bool). if b then places else o.before) (sym keeps ∙ is),
  subst (λ (p : List Place). AreMarks p ms os)
      (ap (λ (p : List Place). p ++ drop m.from places) (sym from) ∙ take-append-drop m.from places)
      (marks_longer o.before (drop m.from places) ms os outer),
)

-- a step, and those after it
pub picks_next : (files : Files) (s : Scope) (steps : List Step) (i : ℕ) (d : Step) → i < length steps
    → picks_from files s (drop i steps)
    ≡ picks_at s (get_or steps i d) ++ picks_from files (after files s (get_or steps i d)) (drop (i + 1) steps)
picks_next files s steps i d lt =
    let e : suc i ≡ i + 1 = omega arith in
    ap (picks_from files s) (drop-cons steps i d lt)
    ∙ ap (λ (k : ℕ). picks_at s (get_or steps i d) ++ picks_from files (after files s (get_or steps i d)) (drop k steps)) e

-- the picks of a step more
pub picks_more : (files : Files) (s : Scope) (steps : List Step) (i : ℕ) (d : Step)
    (old new all : List FilePicks) → i < length steps
    → new ≡ old ++ picks_at s (get_or steps i d)
    → old ++ picks_from files s (drop i steps) ≡ all
    → new ++ picks_from files (after files s (get_or steps i d)) (drop (i + 1) steps) ≡ all
picks_more files s steps i d old new all lt e h =
    ap (λ (l : List FilePicks). l ++ picks_from files (after files s (get_or steps i d)) (drop (i + 1) steps)) e
    ∙ (append_assoc old (picks_at s (get_or steps i d)) (picks_from files (after files s (get_or steps i d)) (drop (i + 1) steps))
    ∙ (ap (λ (l : List FilePicks). old ++ l) (sym (picks_next files s steps i d lt)) ∙ h))
