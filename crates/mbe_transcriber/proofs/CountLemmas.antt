-- The number of values of a metavariable, and other metavariable expressions.
use Rattle.std.proofs.Common.{◌≡◌, refl, sym, ap, ◌∙◌, ℕ, zero, suc, ◌+◌, ◌<◌, List, [], ◌∷◌, ◌++◌, length, arith}
use Rattle.std.specs.declared.vec.Vec.{Vec}
use Rattle.std.specs.declared.alloc.Global.{Global}
use Rattle.mbe_matcher.specs.Bound.{standing_for, values_of}
use Rattle.mbe_transcriber.specs.Counting.{left_sum, around_sum, weight, weight_around}
use Rattle.mbe_transcriber.specs.Filling.{count_in, count_values}
use Rattle.mbe_transcriber.specs.declared.metavar_expr.Left.{Left}
use Rattle.mbe_matcher.specs.declared.bindings.Binding.{Binding, Rounds}
use Rattle.mbe_matcher.proofs.BoundLemmas.{standing-Rounds}

count-first : (xs : List Binding) → count_values zero (values_of xs) ≡ length xs
count-first [] = refl
count-first (x ∷ xs) = ap suc (count-first xs)

pub count-rounds : (d : ℕ) (x : Binding) (v : Vec Binding Global) → x ≡ Rounds v → count_in d (standing_for x) ≡ count_values d (values_of v.items)
count-rounds d x v e = ap (λ y. count_in d (standing_for y)) e ∙ ap (count_in d) (standing-Rounds v)

pub count-here : (n d : ℕ) (x : Binding) (v : Vec Binding Global) → x ≡ Rounds v → d < 1 → n ≡ length v.items → n ≡ count_in d (standing_for x)
count-here n zero x v e h is = is ∙ sym (count-rounds zero x v e ∙ count-first v.items)
count-here n (suc d) x v e h is = absurd (omega arith)

pub count-below : (d e : ℕ) (x : Binding) (v : Vec Binding Global) → x ≡ Rounds v → d ≡ suc e →
    count_values (suc e) (values_of v.items) ≡ count_in d (standing_for x)
count-below d e x v is f = ap (λ k. count_values k (values_of v.items)) (sym f) ∙ sym (count-rounds d x v is)

pub sum-push : (outer : List Left) (l : Left) → around_sum (outer ++ (l ∷ [])) ≡ around_sum outer + left_sum l
sum-push [] l = omega arith
sum-push (k ∷ outer) l = let i = sum-push outer l in omega (arith, i)

pub weight-push : (outer : List Left) (l : Left) → weight_around (outer ++ (l ∷ [])) ≡ weight_around outer + weight l
weight-push [] l = omega arith
weight-push (k ∷ outer) l = let i = weight-push outer l in omega (arith, i)
