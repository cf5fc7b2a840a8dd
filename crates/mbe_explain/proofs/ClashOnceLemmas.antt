-- A third path of a sort changes no clash.
use Rattle.std.proofs.Common.{◌≡◌, inl, inr, refl, sym, ap, ◌∙◌, ◌&&◌, ◌||◌, Bool, true, false, List, [], ◌∷◌, ◌++◌, map}
use Rattle.std.specs.List.{flat_map, list_any}
use Rattle.std.proofs.lemmas.List.Folds.{list_any-append}
use Rattle.std.proofs.lemmas.Grind.{flat_map-append}
use Rattle.std.proofs.Math.Bool.{and-true}
use Rattle.mbe_rules.specs.Text.{is_nil}
use Rattle.mbe_matcher.specs.Paths.{IsAmong, clash}
use Rattle.mbe_matcher.specs.Settled.{IsTwice}

abbrev two : {A : Type 0} → List A → Bool
two (a ∷ b ∷ xs) = true
two _ = false

abbrev any : List Bool → Bool
any bs = list_any (λ b. b) bs

clash-any : (bs : List Bool) → clash bs ≡ (any bs && two bs)
clash-any [] = refl
clash-any (true ∷ []) = refl
clash-any (true ∷ b ∷ bs) = refl
clash-any (false ∷ []) = refl
clash-any (false ∷ b ∷ bs) = sym (and-true (any (b ∷ bs)))

two-left : {A : Type 0} (xs ys : List A) → two xs ≡ true → two (xs ++ ys) ≡ true
two-left [] ys e = absurd (cc e)
two-left (a ∷ []) ys e = absurd (cc e)
two-left (a ∷ b ∷ xs) ys e = refl

two-right : {A : Type 0} (xs ys : List A) → two ys ≡ true → two (xs ++ ys) ≡ true
two-right [] ys e = e
two-right (a ∷ []) [] e = absurd (cc e)
two-right (a ∷ []) (b ∷ ys) e = refl
two-right (a ∷ b ∷ xs) ys e = refl

some-right : {A : Type 0} (xs ys : List A) → is_nil ys ≡ false → is_nil (xs ++ ys) ≡ false
some-right [] ys e = e
some-right (x ∷ xs) ys e = refl

some-left : {A : Type 0} (xs ys : List A) → is_nil xs ≡ false → is_nil (xs ++ ys) ≡ false
some-left [] ys e = absurd (cc e)
some-left (x ∷ xs) ys e = refl

both-some : {A : Type 0} (xs ys : List A) → is_nil xs ≡ false → is_nil ys ≡ false → two (xs ++ ys) ≡ true
both-some [] ys e h = absurd (cc e)
both-some (x ∷ []) [] e h = absurd (cc h)
both-some (x ∷ []) (y ∷ ys) e h = refl
both-some (x ∷ y ∷ xs) ys e h = refl

or-true : (a b : Bool) → a ≡ true → (a || b) ≡ true
or-true true b e = refl
or-true false b e = absurd (cc e)

true-or : (a b : Bool) → b ≡ true → (a || b) ≡ true
true-or true b e = refl
true-or false b e = e

-- a part that is in the first part already adds nothing
or-again : (a t b : Bool) → (t ≡ true → a ≡ true) → (a || (t || b)) ≡ (a || b)
or-again true t b h = refl
or-again false false b h = refl
or-again false true b h = absurd (cc (h refl))

module _ {A K : Type 0} (sort : A → K) (f : A → List Bool) (g : K → List Bool) (by_sort : (a : A) → f a ≡ g (sort a)) where
  some-of : (k : K) (us : List A) → IsAmong k (map sort us) → is_nil (g k) ≡ false → is_nil (flat_map f us) ≡ false
  some-of k [] a n = absurd a
  some-of k (u ∷ us) (inl e) n = some-left (f u) (flat_map f us) (ap is_nil (by_sort u ∙ ap g e) ∙ n)
  some-of k (u ∷ us) (inr a) n = some-right (f u) (flat_map f us) (some-of k us a n)

  two-of : (k : K) (us : List A) → IsTwice k (map sort us) → is_nil (g k) ≡ false → two (flat_map f us) ≡ true
  two-of k [] a n = absurd a
  two-of k (u ∷ us) (inl h) n = both-some (f u) (flat_map f us) (ap is_nil (by_sort u ∙ ap g h.0) ∙ n) (some-of k us h.1 n)
  two-of k (u ∷ us) (inr h) n = two-right (f u) (flat_map f us) (two-of k us h n)

  any-of : (k : K) (us : List A) → IsTwice k (map sort us) → any (g k) ≡ true → any (flat_map f us) ≡ true
  any-of k [] a n = absurd a
  any-of k (u ∷ us) (inl h) n =
      list_any-append (λ b. b) (f u) (flat_map f us) ∙ or-true (any (f u)) (any (flat_map f us)) (ap any (by_sort u ∙ ap g h.0) ∙ n)
  any-of k (u ∷ us) (inr h) n =
      list_any-append (λ b. b) (f u) (flat_map f us) ∙ true-or (any (f u)) (any (flat_map f us)) (any-of k us h n)

  again : (xs t ys : List Bool) → (is_nil t ≡ false → two xs ≡ true) → (any t ≡ true → any xs ≡ true) → clash (xs ++ (t ++ ys)) ≡ clash (xs ++ ys)
  again xs [] ys n h = refl
  again xs (x ∷ t) ys n h =
      let s : List Bool = x ∷ t in
      clash-any (xs ++ (s ++ ys))
      ∙ ap (λ k. any (xs ++ (s ++ ys)) && k) (two-left xs (s ++ ys) (n refl) ∙ sym (two-left xs ys (n refl)))
      ∙ ap (λ k. k && two (xs ++ ys))
      (list_any-append (λ b. b) xs (s ++ ys) ∙ ap (λ k. any xs || k) (list_any-append (λ b. b) s ys)
      ∙ or-again (any xs) (any s) (any ys) h ∙ sym (list_any-append (λ b. b) xs ys))
      ∙ sym (clash-any (xs ++ ys))

  -- a third one of a sort changes no clash
  pub third : (us vs : List A) (w : A) → IsTwice (sort w) (map sort us) → clash (flat_map f (us ++ (w ∷ vs))) ≡ clash (flat_map f (us ++ vs))
  third us vs w h =
      ap clash (flat_map-append f us (w ∷ vs))
      ∙ again (flat_map f us) (f w) (flat_map f vs)
      (λ n. two-of (sort w) us h (ap is_nil (sym (by_sort w)) ∙ n))
      (λ n. any-of (sort w) us h (ap any (sym (by_sort w)) ∙ n))
      ∙ ap clash (sym (flat_map-append f us vs))
