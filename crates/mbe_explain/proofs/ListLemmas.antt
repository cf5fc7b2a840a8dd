-- Elements of lists that are joined from others.
use Rattle.std.proofs.Common.{◌≡◌, inl, inr, refl, sym, ap, subst, Bool, true, false, List, [], ◌∷◌, map}
use Rattle.std.specs.List.{flat_map}
use Rattle.mbe_matcher.specs.Paths.{IsAmong, when}
use Rattle.mbe_matcher.specs.Settled.{sorts}
use Rattle.mbe_matcher.specs.Waiting.{Each, Waiting}
use Rattle.mbe_matcher.proofs.KeptLemmas.{among-left, among-right, sorts-append}
use Rattle.mbe_matcher.proofs.PathListLemmas.{among-append}

-- an element that is there under a condition
pub of-when : {A : Type 0} (b : Bool) (x y : A) → IsAmong x (when b y) → (b ≡ true) × (y ≡ x)
of-when true x y (inl e) = (refl, e)
of-when true x y (inr h) = absurd h
of-when false x y h = absurd h

-- each element of a list gives one
pub in-map : {A B : Type 0} (f : A → B) (x : A) (xs : List A) → IsAmong x xs → IsAmong (f x) (map f xs)
in-map f x [] h = absurd h
in-map f x (y ∷ xs) (inl e) = inl (ap f e)
in-map f x (y ∷ xs) (inr h) = inr (in-map f x xs h)

-- and each that is given is of one
pub of-map : {A B : Type 0} (f : A → B) (y : B) (xs : List A) → IsAmong y (map f xs) → (x : A) × IsAmong x xs × (f x ≡ y)
of-map f y [] h = absurd h
of-map f y (x ∷ xs) (inl e) = (x, inl refl, e)
of-map f y (x ∷ xs) (inr h) = let o = of-map f y xs h in (o.0, inr o.1, o.2)

-- an element of a list of lists is of one of them
pub of-flat_map : {A B : Type 0} (f : A → List B) (y : B) (xs : List A) → IsAmong y (flat_map f xs) →
    (x : A) × IsAmong x xs × IsAmong y (f x)
of-flat_map f y [] h = absurd h
of-flat_map f y (x ∷ xs) h =
    elim (among-append y (f x) (flat_map f xs) h) [
      | inl k ↦ (x, inl refl, k)
      | inr k ↦ let r = of-flat_map f y xs k in (r.0, inr r.1, r.2)
    ]

-- each element of one of the lists is in the list of all
pub in-flat_map : {A B : Type 0} (f : A → List B) (x : A) (y : B) (xs : List A) → IsAmong x xs → IsAmong y (f x) → IsAmong y (flat_map f xs)
in-flat_map f x y [] k h = absurd k
in-flat_map f x y (z ∷ xs) (inl e) h = among-left y (f z) (flat_map f xs) (subst (λ w. IsAmong y (f w)) (sym e) h)
in-flat_map f x y (z ∷ xs) (inr k) h = among-right y (f z) (flat_map f xs) (in-flat_map f x y xs k h)

-- what holds of each element holds of one
pub each-one : {A : Type 0} (Q : A → Type 0) (x : A) (xs : List A) → IsAmong x xs → Each Q xs → Q x
each-one Q x [] k h = absurd k
each-one Q x (y ∷ xs) (inl e) h = subst Q e h.0
each-one Q x (y ∷ xs) (inr k) h = each-one Q x xs k h.1

module _ {M S X : Type 0} (f : X → List (Waiting M S)) where
  -- what the paths of all lists wait with
  pub sorts-flat_map : (xs : List X) → sorts (flat_map f xs) ≡ flat_map (λ x. sorts (f x)) xs
  sorts-flat_map [] = refl
  sorts-flat_map (x ∷ xs) = rw (sorts-append (f x) (flat_map f xs), sorts-flat_map xs) refl
