-- The list of readings has exactly the readings of at most n moves.
use Rattle.std.proofs.Common.{◌≡◌, ◌⊎◌, inl, inr, refl, sym, ap, subst, ◌∙◌, ℕ, zero, suc, ◌≤◌, ◌<◌, Bool, true, false, List, [], ◌∷◌, ◌++◌, map, length, arith}
use Rattle.std.specs.List.{flat_map}
use Rattle.std.proofs.Common.{Some}
use Rattle.mbe_matcher.specs.Paths.{IsAmong, when, IsPath, paths_from, only}

among-append-left : {A : Type 0} (x : A) (xs ys : List A) → IsAmong x xs → IsAmong x (xs ++ ys)
among-append-left x [] ys h = absurd h
among-append-left x (y ∷ xs) ys (inl e) = inl e
among-append-left x (y ∷ xs) ys (inr h) = inr (among-append-left x xs ys h)

among-append-right : {A : Type 0} (x : A) (xs ys : List A) → IsAmong x ys → IsAmong x (xs ++ ys)
among-append-right x [] ys h = h
among-append-right x (y ∷ xs) ys h = inr (among-append-right x xs ys h)

among-map : {A B : Type 0} (f : A → B) (x : A) (xs : List A) → IsAmong x xs → IsAmong (f x) (map f xs)
among-map f x [] h = absurd h
among-map f x (y ∷ xs) (inl e) = inl (ap f e)
among-map f x (y ∷ xs) (inr h) = inr (among-map f x xs h)

among-flat_map : {A B : Type 0} (f : A → List B) (x : A) (xs : List A) (y : B) →
    IsAmong x xs → IsAmong y (f x) → IsAmong y (flat_map f xs)
among-flat_map f x [] y k h = absurd k
among-flat_map f x (z ∷ xs) y (inl e) h =
    among-append-left y (f z) (flat_map f xs) (subst (λ w. IsAmong y (f w)) (sym e) h)
among-flat_map f x (z ∷ xs) y (inr k) h = among-append-right y (f z) (flat_map f xs) (among-flat_map f x xs y k h)

when-true : {A : Type 0} (b : Bool) (x : A) → b ≡ true → IsAmong x (when b x)
when-true true x e = inl refl
when-true false x e = absurd (cc e)

pub among-append : {A : Type 0} (x : A) (xs ys : List A) → IsAmong x (xs ++ ys) → IsAmong x xs ⊎ IsAmong x ys
among-append x [] ys h = inr h
among-append x (y ∷ xs) ys (inl e) = inl (inl e)
among-append x (y ∷ xs) ys (inr h) = elim (among-append x xs ys h) [ inl k ↦ inl (inr k) | inr k ↦ inr k ]

among-map-inv : {A B : Type 0} (f : A → B) (y : B) (xs : List A) → IsAmong y (map f xs) → (x : A) × IsAmong x xs × (f x ≡ y)
among-map-inv f y [] h = absurd h
among-map-inv f y (x ∷ xs) (inl e) = (x, inl refl, e)
among-map-inv f y (x ∷ xs) (inr h) = let r = among-map-inv f y xs h in (r.0, inr r.1, r.2)

among-flat_map-inv : {A B : Type 0} (f : A → List B) (y : B) (xs : List A) →
    IsAmong y (flat_map f xs) → (x : A) × IsAmong x xs × IsAmong y (f x)
among-flat_map-inv f y [] h = absurd h
among-flat_map-inv f y (x ∷ xs) h =
    elim (among-append y (f x) (flat_map f xs) h) [
      | inl k ↦ (x, inl refl, k)
      | inr k ↦ let r = among-flat_map-inv f y xs k in (r.0, inr r.1, r.2)
    ]

nothing-when : {A : Type 0} (b : Bool) (x y : A) → IsAmong x (when b y) → (b ≡ true) × (y ≡ x)
nothing-when true x y (inl e) = (refl, e)
nothing-when true x y (inr h) = absurd h
nothing-when false x y h = absurd h

module _ {M S : Type 0} (step : S → List (M × S)) (ends : S → Bool) where
  -- every path of at most n moves to an end is listed
  pub listed : (n : ℕ) (s t : S) (ms : List M) → IsPath step s ms t → ends t ≡ true → length ms ≤ n → IsAmong ms (paths_from step ends n s)
  listed zero s t [] e u h = when-true (ends s) [] (ap ends e ∙ u)
  listed (suc n) s t [] e u h = among-append-left [] (when (ends s) []) _ (when-true (ends s) [] (ap ends e ∙ u))
  listed zero s t (m ∷ ms) r u h = absurd (omega arith)
  listed (suc n) s t (m ∷ ms) (v, a, r) u h =
      among-append-right (m ∷ ms) (when (ends s) []) _
      (among-flat_map (λ c. map (λ ns. c.0 ∷ ns) (paths_from step ends n c.1)) (m, v) (step s) (m ∷ ms) a
      (among-map (λ ns. m ∷ ns) ms (paths_from step ends n v) (listed n v t ms r u (omega arith))))

  -- each list that is listed is a path to an end
  pub is_path : (n : ℕ) (s : S) (ms : List M) → IsAmong ms (paths_from step ends n s) → (t : S) × IsPath step s ms t × (ends t ≡ true)
  is_path zero s ms h = let r = nothing-when (ends s) ms [] h in (s, subst (λ w. IsPath step s w s) r.1 refl, r.0)
  is_path (suc n) s ms h =
      elim (among-append ms (when (ends s) []) _ h) [
        | inl k ↦ let r = nothing-when (ends s) ms [] k in (s, subst (λ w. IsPath step s w s) r.1 refl, r.0)
        | inr k ↦
            let q = among-flat_map-inv (λ c. map (λ ns. c.0 ∷ ns) (paths_from step ends n c.1)) ms (step s) k in
            let r = among-map-inv (λ ns. q.0.0 ∷ ns) ms (paths_from step ends n q.0.1) q.2 in
            let i = is_path n q.0.1 r.0 r.1 in
            (i.0, subst (λ w. IsPath step s w i.0) r.2 (q.0.1, q.1, i.1), i.2)
      ]

  module _ (Good : S → Type 0) (bound : S → ℕ)
      (falls : (s : S) (c : M × S) → Good s → IsAmong c (step s) → Good c.1 × (bound c.1 < bound s)) where
    -- no path has more moves than the bound
    pub path-length : (s t : S) (ms : List M) → Good s → IsPath step s ms t → length ms ≤ bound s
    path-length s t [] g r = omega arith
    path-length s t (m ∷ ms) g (v, a, r) =
        let f = falls s (m, v) g a in let b = f.1 in let i = path-length v t ms f.0 r in omega arith

    -- where the list has one member, that is a path to an end, and the only one
    pub only-path : (n : ℕ) (s : S) (ms : List M) → Good s → bound s ≤ n → only (paths_from step ends n s) ≡ Some ms →
        ((t : S) × IsPath step s ms t × (ends t ≡ true)) × ((ns : List M) (t : S) → IsPath step s ns t → ends t ≡ true → ns ≡ ms)
    only-path n s ms g b e =
        let o = one (paths_from step ends n s) e in (
          is_path n s ms (subst (IsAmong ms) (sym o) (inl refl)),
          λ ns t r u. last ns (subst (IsAmong ns) o (listed n s t ns r u (let l = path-length s t ns g r in omega arith))),
        )
      where
        one : (xs : List (List M)) → only xs ≡ Some ms → xs ≡ ms ∷ []
        one [] h = absurd (cc h)
        one (x ∷ []) h = let k : x ≡ ms = cc in cc
        one (x ∷ y ∷ xs) h = absurd (cc h)

        last : (ns : List M) → IsAmong ns (ms ∷ []) → ns ≡ ms
        last ns (inl h) = sym h
        last ns (inr h) = absurd h
