-- The definitions of the module stay in scope.
use Rattle.std.proofs.Common.{◌≡◌, ◌∙◌, sym, subst, List, Bool, true, false, refl}
use Rattle.std.specs.Prelude.{not}
use Rattle.crate_walk.proofs.ScopeLemmas.{marks_kept}
use Rattle.crate_walk.specs.Marks.{AreMarks}
use Rattle.crate_walk.specs.Scopes.{ends}
use Rattle.crate_walk.specs.declared.scope.Mark.{Mark}
use Rattle.crate_walk.specs.declared.step.Place.{Place}
use Rattle.crate_walk.proofs.scope.leave.Goals as goal

-- what is not false is true
is_true : (b : Bool) → not b ≡ false → b ≡ true
is_true true h = refl
is_true false h = absurd (cc h)

pub returns-else-not-mark-clause-scope : goal.returns-else-not-mark-clause-scope
returns-else-not-mark-clause-scope c = λ s h.
    let keeps : c.in-Some.mark.keeps ≡ true = is_true c.in-Some.mark.keeps c.if-not-mark.false in
    let kept = marks_kept s.places c.in-Some.mark c.pop_front.new.self.items s.begun
    (subst (λ (l : List Mark). AreMarks s.places l s.begun) c.in-Some.ensures.items h.marks) keeps in
    record {
      places = h.places ∙ sym kept.0;
      marks = subst (λ (p : List Place). AreMarks p c.pop_front.new.self.items (ends s.places s.begun).begun) (sym kept.0) kept.1;
    }
