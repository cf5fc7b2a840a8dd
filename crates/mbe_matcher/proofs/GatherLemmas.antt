-- What is gathered along the paths of a transition system whose moves lower a bound.
use Rattle.std.proofs.Common.{◌≡◌, ◌⊎◌, inl, inr, refl, ap, ◌∙◌, ℕ, zero, suc, ◌≤◌, ◌<◌, List, [], ◌∷◌, ◌++◌, arith}
use Rattle.std.specs.List.{flat_map}
use Rattle.mbe_matcher.specs.Paths.{IsAmong}
use Rattle.mbe_matcher.specs.Waiting.{gather}

pub flat_map-among : {X A : Type 0} (f h : X → List A) (xs : List X) →
    ((x : X) → IsAmong x xs → f x ≡ h x) → flat_map f xs ≡ flat_map h xs
flat_map-among f h [] e = refl
flat_map-among f h (x ∷ xs) e =
    let a = e x (inl refl) in let b = flat_map-among f h xs (λ y k. e y (inr k)) in cc

pub none-among : {X : Type 0} (xs : List X) → ((x : X) → IsAmong x xs → ⊥) → xs ≡ []
none-among [] e = refl
none-among (x ∷ xs) e = absurd (e x (inl refl))

module _ {M S A : Type 0} (step : S → List (M × S)) (base : S → List A) (one : S → M × S → List A → List A) where
  module _ (Good : S → Type 0) (bound : S → ℕ) (some : (s : S) → 0 < bound s)
      (falls : (s : S) (c : M × S) → Good s → IsAmong c (step s) →
      (Good c.1 × (bound c.1 < bound s)) ⊎ ((x y : List A) → one s c x ≡ one s c y)) where
    -- at the bound, and above it, more makes no difference
    one-enough : (n m : ℕ) (s : S) (c : M × S) → Good s → IsAmong c (step s) →
        (Good c.1 → bound c.1 < bound s → gather step base one n c.1 ≡ gather step base one m c.1) → one s c (gather step base one n c.1) ≡ one s c (gather step base one m c.1)
    one-enough n m s c g a e =
        elim (falls s c g a) [ inl f ↦ ap (one s c) (e f.0 f.1) | inr k ↦ k (gather step base one n c.1) (gather step base one m c.1) ]

    pub gather-enough : (n m : ℕ) (s : S) → Good s → bound s ≤ n → bound s ≤ m → gather step base one n s ≡ gather step base one m s
    gather-enough zero m s g h k = let z = some s in absurd (omega arith)
    gather-enough (suc n) zero s g h k = let z = some s in absurd (omega arith)
    gather-enough (suc n) (suc m) s g h k =
        ap (λ r. base s ++ r)
        (flat_map-among (λ c. one s c (gather step base one n c.1)) (λ c. one s c (gather step base one m c.1)) (step s)
        (λ c a. one-enough n m s c g a (λ f q. gather-enough n m c.1 f (omega arith) (omega arith))))

    -- with enough moves, what is gathered obeys its equation
    pub gathered-step : (s : S) → Good s →
        gather step base one (bound s) s ≡ base s ++ flat_map (λ c. one s c (gather step base one (bound c.1) c.1)) (step s)
    gathered-step s g =
        gather-enough (bound s) (suc (bound s)) s g (omega arith) (omega arith)
        ∙ ap (λ r. base s ++ r)
        (flat_map-among (λ c. one s c (gather step base one (bound s) c.1)) (λ c. one s c (gather step base one (bound c.1) c.1)) (step s)
        (λ c a. one-enough (bound s) (bound c.1) s c g a (λ f q. gather-enough (bound s) (bound c.1) c.1 f (omega arith) (omega arith))))
