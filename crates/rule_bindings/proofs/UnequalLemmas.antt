-- How many iterations a list of values has.
use Rattle.std.proofs.Common.{◌≡◌, refl, sym, ap, ◌∙◌, ℕ, suc, List, [], ◌∷◌}
use Rattle.std.proofs.Common.{Some, length, option_and_then}
use Rattle.std.specs.declared.alloc.Global.{Global}
use Rattle.std.specs.declared.vec.Vec.{Vec}
use Rattle.mbe_matcher.specs.Bindings.{value_at}
use Rattle.mbe_matcher.specs.Bound.{standing_for, values_of}
use Rattle.mbe_matcher.specs.declared.bindings.Binding.{Binding, Rounds}
use Rattle.mbe_matcher.proofs.BoundLemmas.{standing-Rounds}
use Rattle.mbe_transcriber.specs.Filling.{count_values, value_in}
use Rattle.rule_bindings.specs.Notes.{iterations_of}

count-all : (xs : List Binding) → count_values 0 (values_of xs) ≡ length xs
count-all [] = refl
count-all (x ∷ xs) = ap suc (count-all xs)

-- a list has as many iterations as values
pub iterations-Rounds : (b : Binding) (v : Vec Binding Global) (n : ℕ) → b ≡ Rounds v
    → n ≡ length v.items → Some n ≡ iterations_of (Some (standing_for b))
iterations-Rounds b v n is all =
    ap Some (all ∙ sym (count-all v.items))
    ∙ sym (ap (λ x. iterations_of (Some (standing_for x))) is
    ∙ ap (λ x. iterations_of (Some x)) (standing-Rounds v))

module _ (b : Binding) (v : Vec Binding Global) (vs : List Binding) (ns : List ℕ) (n : ℕ)
    (inner : List ℕ) (is : b ≡ Rounds v) (same : vs ≡ v.items) (all : ns ≡ n ∷ inner) where
  -- the value of a list is that of the first iteration, in the others
  pub in-list : value_in ns (standing_for b)
      ≡ option_and_then (value_in inner) (value_at n (values_of vs))
  in-list =
      ap (λ ms. value_in ms (standing_for b)) all
      ∙ ap (λ x. value_in (n ∷ inner) (standing_for x)) is
      ∙ ap (value_in (n ∷ inner)) (standing-Rounds v)
      ∙ ap (λ xs. option_and_then (value_in inner) (value_at n (values_of xs))) (sym same)
