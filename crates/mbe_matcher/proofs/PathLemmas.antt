-- The paths of two systems whose states and moves correspond.
use Rattle.std.proofs.Common.{◌≡◌, refl, ap, ℕ, zero, suc, List, [], ◌∷◌, ◌++◌, map, flat_map, Bool, true, false, option_map}
use Rattle.std.proofs.lemmas.List.{map-append}
use Rattle.mbe_matcher.specs.Paths.{when, only, paths_from, takings_from}

map-map : {A B C : Type 0} (k : B → C) (h : A → B) (xs : List A) → map k (map h xs) ≡ map (λ x. k (h x)) xs
map-map k h [] = refl
map-map k h (x ∷ xs) = ap (λ r. k (h x) ∷ r) (map-map k h xs)

pub when-map : {A B : Type 0} (h : A → B) (b : Bool) (x : A) → when b (h x) ≡ map h (when b x)
when-map h true x = refl
when-map h false x = refl

pub only-map : {A B : Type 0} (h : A → B) (xs : List A) → only (map h xs) ≡ option_map h (only xs)
only-map h [] = refl
only-map h (x ∷ []) = refl
only-map h (x ∷ y ∷ xs) = refl

-- from moves M and states S to moves N and states T
module _ {M N S T : Type 0} (g : M → N) (h : S → T) (step : S → List (M × S)) (step' : T → List (N × T)) where
  abbrev pub choice : M × S → N × T
  choice c = (g c.0, h c.1)

  module _ (same : (s : S) → step' (h s) ≡ map choice (step s)) where
    after-map : (ends : S → Bool) (ends' : T → Bool) (n : ℕ) →
        ((s : S) → paths_from step' ends' n (h s) ≡ map (map g) (paths_from step ends n s)) → (cs : List (M × S)) →
        flat_map (λ c. map (λ ms. c.0 ∷ ms) (paths_from step' ends' n c.1)) (map choice cs)
        ≡ map (map g) (flat_map (λ c. map (λ ms. c.0 ∷ ms) (paths_from step ends n c.1)) cs)
    after-map ends ends' n below [] = refl
    after-map ends ends' n below (c ∷ cs) =
        rw (
          below c.1,
          after-map ends ends' n below cs,
          map-append,
          map-map (map g) (λ ms. c.0 ∷ ms) (paths_from step ends n c.1),
          map-map (λ ms. g c.0 ∷ ms) (map g) (paths_from step ends n c.1),
        )

    pub paths_from-map : (ends : S → Bool) (ends' : T → Bool) → ((s : S) → ends' (h s) ≡ ends s) → (n : ℕ) (s : S) →
        paths_from step' ends' n (h s) ≡ map (map g) (paths_from step ends n s)
    paths_from-map ends ends' e zero s = rw (e s) (when-map (map g) (ends s) [])
    paths_from-map ends ends' e (suc n) s =
        let below = after-map ends ends' n (λ t. paths_from-map ends ends' e n t) (step s) in
        rw (e s, same s, when-map (map g) (ends s) [], below, map-append)

    taken-after-map : (takes is_fragment : M → Bool) (takes' is_fragment' : N → Bool) (left : S → ℕ) (left' : T → ℕ) (n q : ℕ) →
        ((m : M) → takes' (g m) ≡ takes m) → ((m : M) → is_fragment' (g m) ≡ is_fragment m) →
        ((s : S) → takings_from step' takes' is_fragment' left' n (h s) ≡ takings_from step takes is_fragment left n s) → (cs : List (M × S)) →
        flat_map (λ c. when (takes' c.0) (q, is_fragment' c.0) ++ takings_from step' takes' is_fragment' left' n c.1) (map choice cs)
        ≡ flat_map (λ c. when (takes c.0) (q, is_fragment c.0) ++ takings_from step takes is_fragment left n c.1) cs
    taken-after-map takes is_fragment takes' is_fragment' left left' n q t i below [] = refl
    taken-after-map takes is_fragment takes' is_fragment' left left' n q t i below (c ∷ cs) =
        rw (t c.0, i c.0, below c.1, taken-after-map takes is_fragment takes' is_fragment' left left' n q t i below cs)

    pub takings_from-map : (takes is_fragment : M → Bool) (takes' is_fragment' : N → Bool) (left : S → ℕ) (left' : T → ℕ) →
        ((m : M) → takes' (g m) ≡ takes m) → ((m : M) → is_fragment' (g m) ≡ is_fragment m) → ((s : S) → left' (h s) ≡ left s) → (n : ℕ) (s : S) →
        takings_from step' takes' is_fragment' left' n (h s) ≡ takings_from step takes is_fragment left n s
    takings_from-map takes is_fragment takes' is_fragment' left left' t i l zero s = refl
    takings_from-map takes is_fragment takes' is_fragment' left left' t i l (suc n) s =
        rw (same s, l s)
        (taken-after-map takes is_fragment takes' is_fragment' left left' n (left s) t i
        (λ u. takings_from-map takes is_fragment takes' is_fragment' left left' t i l n u) (step s))
