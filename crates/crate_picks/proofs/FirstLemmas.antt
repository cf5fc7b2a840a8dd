-- Where numbers stand first.
use Rattle.std.proofs.Common.{◌≡◌, ℕ, ◌+◌, ◌<◌, Bool, true, false, List, [], ◌∷◌, Option, Some, cond, length, subst, arith}
use Rattle.std.specs.Prelude.{IfSome, nat_eq}
use Rattle.std.specs.List.{position_from}
use Rattle.crate_picks.specs.First.{first_of}

choice : (b : Bool) (i n : ℕ) (o : Option ℕ) → i < n → IfSome o (λ k. k < n) → IfSome (cond b (Some i) o) (λ k. k < n)
choice true i n o here there = here
choice false i n o here there = there

-- an index at which a test passes is one of the list
below : (t : ℕ → Bool) (i : ℕ) (xs : List ℕ) → IfSome (position_from t i xs) (λ k. k < i + length xs)
below t i [] = tt
below t i (x ∷ xs) =
    let here : i < i + length (x ∷ xs) = omega arith in
    let same : (i + 1) + length xs ≡ i + length (x ∷ xs) = omega arith in
    choice (t x) i (i + length (x ∷ xs)) (position_from t (i + 1) xs) here
    (subst (λ (n : ℕ). IfSome (position_from t (i + 1) xs) (λ k. k < n)) same (below t (i + 1) xs))

-- where a number stands first is an index of the list
pub first_is_within : (xs : List ℕ) (n : ℕ) → IfSome (first_of xs n) (λ k. k < length xs)
first_is_within xs n =
    let same : 0 + length xs ≡ length xs = omega arith in
    subst (λ (m : ℕ). IfSome (first_of xs n) (λ k. k < m)) same (below (λ m. nat_eq m n) 0 xs)
