-- One more place is in scope.
use Rattle.std.proofs.Common.{◌++◌, ◌∷◌, [], ap, ◌∙◌, List}
use Rattle.crate_walk.proofs.ScopeLemmas.{marks_longer}
use Rattle.crate_walk.specs.declared.step.Place.{Place}
use Rattle.crate_walk.proofs.scope.pass.Goals as goal

pub returns-in_ok-push : goal.returns-in_ok-push
returns-in_ok-push c = λ s h. rw c.if-is_scoped.true (record {
  places = c.in_ok-push.ensures.items ∙ ap (λ (l : List Place). l ++ c.args.place ∷ []) h.places;
  marks = marks_longer s.places (c.args.place ∷ []) c.args.scope.now.marks.items s.begun h.marks;
})
