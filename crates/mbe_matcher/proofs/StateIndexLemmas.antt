-- Indexes of numbers: one more number, and the search from one to the one before.
use Rattle.std.proofs.Common.{◌≡◌, refl, sym, ap, subst, ◌∙◌, ℕ, zero, suc, ◌<◌, ◌≤◌, ◌||◌, nat_eq, ◌⊎◌, inl, inr, Bool, true, false, List, [], ◌∷◌, ◌++◌, map, length, take, get_or, slice_get, Some, if◌then◌else◌, arith}
use Rattle.std.specs.List.{list_any}
use Rattle.std.specs.Cmp.{unsigned_Decides}
use Rattle.mbe_matcher.specs.SeenStates.{IsIndex, last_at, last_in}
use Rattle.mbe_matcher.specs.declared.seen_states.StateIndex.{StateIndex}

-- ---- the last one with a number

below : (ns : List ℕ) (n k : ℕ) → last_at ns n k ≤ k
below ns n zero = omega arith
below ns n (suc k) = go (nat_eq (get_or ns k 0) n) (below ns n k)
  where
    go : (b : Bool) → last_at ns n k ≤ k → (if b then suc k else last_at ns n k) ≤ suc k
    go true h = omega arith
    go false h = omega (arith, h)

is-there : (ns : List ℕ) (n k j : ℕ) → last_at ns n k ≡ suc j → (j < k) × (get_or ns j 0 ≡ n)
is-there ns n zero j e = absurd (omega (arith, e))
is-there ns n (suc k) j e = go (nat_eq (get_or ns k 0) n) refl (is-there ns n k j) e
  where
    go : (b : Bool) → (nat_eq (get_or ns k 0) n) ≡ b → (last_at ns n k ≡ suc j → (j < k) × (get_or ns j 0 ≡ n)) →
        (if b then suc k else last_at ns n k) ≡ suc j → (j < suc k) × (get_or ns j 0 ≡ n)
    go true h i e =
        let same : k ≡ j = omega (arith, e) in
        (omega (arith, same), ap (λ m. get_or ns m 0) (sym same) ∙ (unsigned_Decides (get_or ns k 0) n).0 h)
    go false h i e = let r = i e in (omega (arith, r.0), r.1)

-- ---- one more number

get-front : (xs ys : List ℕ) (i : ℕ) → i < length xs → get_or (xs ++ ys) i 0 ≡ get_or xs i 0
get-front [] ys i h = absurd (omega (arith, h))
get-front (x ∷ xs) ys zero h = refl
get-front (x ∷ xs) ys (suc i) h = get-front xs ys i (omega (arith, h))

get-last : (xs : List ℕ) (y : ℕ) → get_or (xs ++ (y ∷ [])) (length xs) 0 ≡ y
get-last [] y = refl
get-last (x ∷ xs) y = get-last xs y

length-more : (xs : List ℕ) (y : ℕ) → length (xs ++ (y ∷ [])) ≡ suc (length xs)
length-more [] y = refl
length-more (x ∷ xs) y = ap suc (length-more xs y)

front : (ns : List ℕ) (y n k : ℕ) → k ≤ length ns → last_at (ns ++ (y ∷ [])) n k ≡ last_at ns n k
front ns y n zero h = refl
front ns y n (suc k) h =
    ap (λ m. if nat_eq m n then suc k else last_at (ns ++ (y ∷ [])) n k) (get-front ns (y ∷ []) k (omega (arith, h)))
    ∙ ap (λ m. if nat_eq (get_or ns k 0) n then suc k else m) (front ns y n k (omega (arith, h)))

more : (ns : List ℕ) (y n : ℕ) → last_at (ns ++ (y ∷ [])) n (length (ns ++ (y ∷ []))) ≡ (if nat_eq y n then suc (length ns) else last_at ns n (length ns))
more ns y n =
    ap (last_at (ns ++ (y ∷ [])) n) (length-more ns y)
    ∙ ap (λ m. if nat_eq m n then suc (length ns) else last_at (ns ++ (y ∷ [])) n (length ns)) (get-last ns y)
    ∙ ap (λ m. if nat_eq y n then suc (length ns) else m) (front ns y n (length ns) (omega arith))

pub index-more : (a b : StateIndex) (ns : List ℕ) (y v : ℕ) → IsIndex a ns →
    ((n : ℕ) → last_in b.last n ≡ (if nat_eq y n then suc (length ns) else last_in a.last n)) → v ≡ last_in a.last y → b.before.items ≡ a.before.items ++ (v ∷ []) →
    IsIndex b (ns ++ (y ∷ []))
index-more a b ns y v h updates was pushed = record {
  last = λ n. updates n ∙ ap (λ m. if nat_eq y n then suc (length ns) else m) (h.last n) ∙ sym (more ns y n);
  count = ap length pushed ∙ length-more a.before.items v ∙ ap suc h.count ∙ sym (length-more ns y);
  before = λ i le. at i (subst (λ m. i < m) (length-more ns y) le);
}
  where
    at : (i : ℕ) → i < suc (length ns) → get_or b.before.items i 0 ≡ last_at (ns ++ (y ∷ [])) (get_or (ns ++ (y ∷ [])) i 0) i
    at i le = elim (less-or i (length ns) le) [ inl lt ↦ old lt | inr is ↦ new is ]
      where
        less-or : (i n : ℕ) → i < suc n → (i < n) ⊎ (i ≡ n)
        less-or zero zero h = inr refl
        less-or zero (suc n) h = inl (omega arith)
        less-or (suc i) zero h = absurd (omega (arith, h))
        less-or (suc i) (suc n) h = elim (less-or i n (omega (arith, h))) [ inl lt ↦ inl (omega (arith, lt)) | inr e ↦ inr (ap suc e) ]

        old : i < length ns → get_or b.before.items i 0 ≡ last_at (ns ++ (y ∷ [])) (get_or (ns ++ (y ∷ [])) i 0) i
        old lt =
            ap (λ xs. get_or xs i 0) pushed
            ∙ get-front a.before.items (v ∷ []) i (subst (λ m. i < m) (sym h.count) lt)
            ∙ h.before i lt
            ∙ sym (front ns y (get_or ns i 0) i (omega (arith, lt)))
            ∙ ap (λ m. last_at (ns ++ (y ∷ [])) m i) (sym (get-front ns (y ∷ []) i lt))

        new : i ≡ length ns → get_or b.before.items i 0 ≡ last_at (ns ++ (y ∷ [])) (get_or (ns ++ (y ∷ [])) i 0) i
        new is =
            ap (λ xs. get_or xs i 0) pushed
            ∙ ap (λ j. get_or (a.before.items ++ (v ∷ [])) j 0) (is ∙ sym h.count)
            ∙ get-last a.before.items v
            ∙ was
            ∙ h.last y
            ∙ sym (front ns y y (length ns) (omega arith))
            ∙ ap (λ m. last_at (ns ++ (y ∷ [])) m (length ns)) (sym (get-last ns y))
            ∙ ap (λ j. last_at (ns ++ (y ∷ [])) (get_or (ns ++ (y ∷ [])) j 0) j) (sym is)

-- ---- the search

take-here : {X : Type 0} (xs : List X) → take (length xs) xs ≡ xs
take-here [] = refl
take-here (x ∷ xs) = ap (λ ys. x ∷ ys) (take-here xs)

pub stands-at : {X : Type 0} (xs : List X) (i : ℕ) (x : X) → i < length xs → x ≡ get_or xs i x → slice_get xs i ≡ Some x
stands-at [] i x h e = absurd (omega (arith, h))
stands-at (y ∷ xs) zero x h e = ap Some (sym e)
stands-at (y ∷ xs) (suc i) x h e = stands-at xs i x (omega (arith, h)) e

module _ {X : Type 0} (test : X → Bool) where
  any-more : (xs : List X) (k : ℕ) (x : X) → slice_get xs k ≡ Some x → list_any test (take (suc k) xs) ≡ (list_any test (take k xs) || test x)
  any-more [] k x e = absurd (cc e)
  any-more (y ∷ xs) zero x e = let same : y ≡ x = cc in or-false (test y) ∙ ap test same
    where
      or-false : (b : Bool) → (b || false) ≡ b
      or-false true = refl
      or-false false = refl
  any-more (y ∷ xs) (suc k) x e = ap (λ b. test y || b) (any-more xs k x e) ∙ or-or (test y) (list_any test (take k xs)) (test x)
    where
      or-or : (a b c : Bool) → (a || (b || c)) ≡ ((a || b) || c)
      or-or true b c = refl
      or-or false b c = refl

  module _ (number : X → ℕ) (n : ℕ) (only : (x : X) → test x ≡ true → number x ≡ n) where
    -- what passes is at the last one with the number or before it
    to-last : (xs : List X) (k : ℕ) → k ≤ length xs → list_any test (take k xs) ≡ list_any test (take (last_at (map number xs) n k) xs)
    to-last xs zero h = refl
    to-last xs (suc k) h = go (to-last xs k (omega (arith, h))) (nat_eq (get_or (map number xs) k 0) n) refl
      where
        one : (ys : List X) (j : ℕ) → j < length ys → (x : X) × (slice_get ys j ≡ Some x) × (get_or (map number ys) j 0 ≡ number x)
        one [] j h = absurd (omega (arith, h))
        one (y ∷ ys) zero h = (y, refl, refl)
        one (y ∷ ys) (suc j) h = one ys j (omega (arith, h))

        go : list_any test (take k xs) ≡ list_any test (take (last_at (map number xs) n k) xs) →
            (b : Bool) → (nat_eq (get_or (map number xs) k 0) n) ≡ b →
            list_any test (take (suc k) xs) ≡ list_any test (take (if b then suc k else last_at (map number xs) n k) xs)
        go rec true e = refl
        go rec false e =
            let (x, stands, is) = one xs k (omega (arith, h)) in
            any-more xs k x stands
            ∙ fails x (ap (λ m. nat_eq m n) (sym is) ∙ e) (test x) refl
            ∙ rec
          where
            eq-self : (m : ℕ) → nat_eq m m ≡ true
            eq-self m = (unsigned_Decides m m).1 refl

            fails : (x : X) → (nat_eq (number x) n) ≡ false → (b : Bool) → test x ≡ b → (list_any test (take k xs) || b) ≡ list_any test (take k xs)
            fails x e true p = let same : false ≡ true = sym e ∙ ap (λ m. nat_eq m n) (only x p) ∙ eq-self n in absurd (cc same)
            fails x e false p = or-false (list_any test (take k xs))
              where
                or-false : (b : Bool) → (b || false) ≡ b
                or-false true = refl
                or-false false = refl

  -- where a search from one to the one before stands
  pub record IsAt (number : X → ℕ) (n : ℕ) (xs : List X) (at : ℕ) : Type 0 where
    pub any : list_any test xs ≡ list_any test (take at xs)
    pub here : (j : ℕ) → at ≡ suc j → (j < length xs) × (get_or (map number xs) j 0 ≡ n)

  module _ (number : X → ℕ) (n : ℕ) (only : (x : X) → test x ≡ true → number x ≡ n) (xs : List X) where
    mapped : length (map number xs) ≡ length xs
    mapped = go xs
      where
        go : (ys : List X) → length (map number ys) ≡ length ys
        go [] = refl
        go (y ∷ ys) = ap suc (go ys)

    pub begins : (at : ℕ) → at ≡ last_at (map number xs) n (length (map number xs)) → IsAt number n xs at
    begins at is = record {
      any = ap (list_any test) (sym (take-here xs)) ∙ to-last number n only xs (length xs) (omega arith)
          ∙ ap (λ k. list_any test (take k xs)) (ap (last_at (map number xs) n) (sym mapped) ∙ sym is);
      here = λ j e. let h = is-there (map number xs) n (length (map number xs)) j (sym is ∙ e) in (omega (arith, h.0, mapped), h.1);
    }

    module _ (index : StateIndex) (is_index : IsIndex index (map number xs)) (j : ℕ) (is_at : IsAt number n xs (suc j)) where
      there : get_or index.before.items j 0 ≡ last_at (map number xs) n j
      there = let h = is_at.here j refl in is_index.before j (omega (arith, h.0, mapped)) ∙ ap (λ m. last_at (map number xs) m j) h.1

      pub within : j < length index.before.items
      within = let h = is_at.here j refl in omega (arith, h.0, mapped, is_index.count)

      pub falls : get_or index.before.items j 0 ≤ j
      falls = let h = below (map number xs) n j in omega (arith, h, there)

      pub goes-on : (x : X) → slice_get xs j ≡ Some x → test x ≡ false → IsAt number n xs (get_or index.before.items j 0)
      goes-on x stands fails =
          let h = is_at.here j refl in
          record {
            any = is_at.any ∙ any-more xs j x stands ∙ ap (λ b. list_any test (take j xs) || b) fails ∙ or-false (list_any test (take j xs))
                ∙ to-last number n only xs j (omega (arith, h.0)) ∙ ap (λ k. list_any test (take k xs)) (sym there);
            here = λ i e. let k = is-there (map number xs) n j i (sym there ∙ e) in (omega (arith, k.0, h.0), k.1);
          }
        where
          or-false : (b : Bool) → (b || false) ≡ b
          or-false true = refl
          or-false false = refl

    -- one that passes
    pub found : (j : ℕ) (x : X) → slice_get xs j ≡ Some x → test x ≡ true → true ≡ list_any test xs
    found j x stands passes = sym (go xs j stands)
      where
        go : (ys : List X) (k : ℕ) → slice_get ys k ≡ Some x → list_any test ys ≡ true
        go [] k e = absurd (cc e)
        go (y ∷ ys) zero e = let same : y ≡ x = cc in ap (λ z. test z || list_any test ys) same ∙ ap (λ b. b || list_any test ys) passes
        go (y ∷ ys) (suc k) e = ap (λ b. test y || b) (go ys k e) ∙ or-true (test y)
          where
            or-true : (a : Bool) → (a || true) ≡ true
            or-true true = refl
            or-true false = refl
