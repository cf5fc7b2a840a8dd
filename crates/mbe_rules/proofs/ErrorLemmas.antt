-- Equality by `==` of errors with their spans.
use Rattle.std.proofs.Common.{◌∙◌, Bool, ap, refl}
use Rattle.std.specs.Prelude.{◌&&◌}
use Rattle.std.specs.Cmp.{first_so, second_so}
use Rattle.tt_data.proofs.EqualityLemmas.{IsEquality}

-- a test of both parts of a pair is true exactly of a pair and itself, where those of the parts are
pub pairs : {A B : Type 0} (E : A → A → Bool) (F : B → B → Bool) → IsEquality E → IsEquality F → IsEquality {A = A × B} (λ a b. E a.0 b.0 && F a.1 b.1)
pairs E F e f a b = (
  λ both.
      let first = (e a.0 b.0).0 (first_so (E a.0 b.0) _ both) in
      let second = (f a.1 b.1).0 (second_so (E a.0 b.0) _ both) in
      ap (λ x. (x, a.1)) first ∙ ap (λ y. (b.0, y)) second,
  λ same. rw (← same) (rw ((e a.0 a.0).1 refl) ((f a.1 a.1).1 refl)),
)
