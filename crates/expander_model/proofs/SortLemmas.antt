-- The order of faults: an ordered list with the same faults is the one that `in_order` gives.
use Rattle.std.proofs.Common.{◌≡◌, ℕ, zero, suc, ◌+◌, ◌<◌, List, [], ◌∷◌, length, get_or, refl, sym, ap, subst, ◌∙◌, arith, set, Bool, true, false, if◌then◌else◌, get_or-set_same, get_or-set_other, Bor}
use Rattle.std.specs.Fn.{Called, ComputesKey, Mut}
use Rattle.std.specs.List.{swap}
use Rattle.std.specs.Prelude.{⊤}
use Rattle.std.specs.List.Sorted.{IsPermutation, IsSortedBy, IsSortedByKey}
use Rattle.std.proofs.lemmas.Fn.{always_returns_same}
use Rattle.std.proofs.lemmas.List.{length-set}
use Rattle.std.proofs.lemmas.List.Edits.{swap_is}
use Rattle.std.proofs.lemmas.List.Sorted.{IsPermutation-append_comm, IsPermutation-append_left, IsPermutation-cons, IsPermutation-keeps, IsPermutation-refl, IsPermutation-trans}
use Rattle.expander_model.specs.declared.fault.Fault.{Fault}
use Rattle.expander_model.specs.declared.fault.FaultKind.TheVariants.{CannotExpand}
use Rattle.expander_model.specs.Faults.{comes_before, in_order, put_in_order}
use Rattle.expander_model.proofs.OrderLemmas.{below, level, above, stands, before-never, before-itself, before-tied, before-between, Key, key_of, key_cmp, key_less}

-- a fault before which none of the list's first comes
put_before : (f g : Fault) (gs : List Fault) → comes_before g f ≡ false → put_in_order f (g ∷ gs) ≡ f ∷ g ∷ gs
put_before f g gs e = rw e refl

put_after : (f g : Fault) (gs : List Fault) → comes_before g f ≡ true → put_in_order f (g ∷ gs) ≡ g ∷ put_in_order f gs
put_after f g gs e = rw e refl

-- two faults put in order before a list, either first
put_two : (a b : Fault) (gs : List Fault) → put_in_order a gs ≡ a ∷ gs → put_in_order b gs ≡ b ∷ gs
    → put_in_order a (b ∷ gs) ≡ put_in_order b (a ∷ gs)
put_two a b gs first second = go (comes_before a b) (comes_before b a) refl refl
  where
    go : (p q : Bool) → comes_before a b ≡ p → comes_before b a ≡ q → put_in_order a (b ∷ gs) ≡ put_in_order b (a ∷ gs)
    go true true e h = let wrong : true ≡ false = sym h ∙ before-never a b e in cc
    go true false e h = put_before a b gs h ∙ ap (λ more. a ∷ more) (sym second) ∙ sym (put_after b a gs e)
    go false true e h = put_after a b gs h ∙ ap (λ more. b ∷ more) first ∙ sym (put_before b a gs e)
    go false false e h = let same : a ≡ b = before-tied a b e h in ap (λ f. put_in_order f (b ∷ gs)) same ∙ ap (λ f. put_in_order b (f ∷ gs)) (sym same)

put_either : (a b : Fault) (gs : List Fault) → put_in_order a (put_in_order b gs) ≡ put_in_order b (put_in_order a gs)
put_either a b [] = put_two a b [] refl refl
put_either a b (c ∷ gs) = go (put_either a b gs) (comes_before c a) (comes_before c b) refl refl
  where
    go : put_in_order a (put_in_order b gs) ≡ put_in_order b (put_in_order a gs) → (p q : Bool) → comes_before c a ≡ p → comes_before c b ≡ q
        → put_in_order a (put_in_order b (c ∷ gs)) ≡ put_in_order b (put_in_order a (c ∷ gs))
    go rest true true e h =
        ap (put_in_order a) (put_after b c gs h) ∙ put_after a c (put_in_order b gs) e ∙ ap (λ more. c ∷ more) rest
        ∙ sym (ap (put_in_order b) (put_after a c gs e) ∙ put_after b c (put_in_order a gs) h)
    go rest true false e h =
        ap (put_in_order a) (put_before b c gs h) ∙ put_after a b (c ∷ gs) (before-between b a c e h)
        ∙ ap (λ more. b ∷ more) (put_after a c gs e)
        ∙ sym (ap (put_in_order b) (put_after a c gs e) ∙ put_before b c (put_in_order a gs) h)
    go rest false true e h =
        ap (put_in_order a) (put_after b c gs h) ∙ put_before a c (put_in_order b gs) e
        ∙ sym (ap (put_in_order b) (put_before a c gs e) ∙ put_after b a (c ∷ gs) (before-between a b c h e) ∙ ap (λ more. a ∷ more) (put_after b c gs h))
    go rest false false e h =
        ap (put_in_order a) (put_before b c gs h) ∙ put_two a b (c ∷ gs) (put_before a c gs e) (put_before b c gs h)
        ∙ sym (ap (put_in_order b) (put_before a c gs e))

-- what `put_in_order` put there, taken away again
abbrev taken : Fault → List Fault → List Fault
taken f [] = []
taken f (g ∷ gs) = if comes_before g f then g ∷ taken f gs else gs

taken-put : (f : Fault) (gs : List Fault) → taken f (put_in_order f gs) ≡ gs
taken-put f [] = rw (before-itself f) refl
taken-put f (g ∷ gs) = go (taken-put f gs) (comes_before g f) refl
  where
    go : taken f (put_in_order f gs) ≡ gs → (p : Bool) → comes_before g f ≡ p → taken f (put_in_order f (g ∷ gs)) ≡ g ∷ gs
    go rest true e = ap (taken f) (put_after f g gs e) ∙ rw (e, rest) refl
    go rest false e = ap (taken f) (put_before f g gs e) ∙ rw (before-itself f) refl

put_same : (f : Fault) (xs ys : List Fault) → put_in_order f xs ≡ put_in_order f ys → xs ≡ ys
put_same f xs ys e = sym (taken-put f xs) ∙ ap (taken f) e ∙ taken-put f ys

-- one fault for another
in_order-set : (xs : List Fault) (i : ℕ) (f d : Fault) → i < length xs
    → put_in_order (get_or xs i d) (in_order (set xs i f)) ≡ put_in_order f (in_order xs)
in_order-set [] i f d h = absurd (omega (arith, h))
in_order-set (x ∷ xs) zero f d h = put_either x f (in_order xs)
in_order-set (x ∷ xs) (suc i) f d h =
    put_either (get_or xs i d) x (in_order (set xs i f)) ∙ ap (put_in_order x) (in_order-set xs i f d (omega (arith, h)))
    ∙ put_either x f (in_order xs)

in_order-swap : (xs : List Fault) (i j : ℕ) (d : Fault) → i < length xs → j < length xs → in_order (swap xs i j) ≡ in_order xs
in_order-swap xs i j d h k =
    let x = get_or xs i d in
    let y = get_or xs j d in
    let once = set xs i y in
    let long : j < length once = omega (arith, k, length-set xs i y) in
    let there : get_or once j d ≡ y = elim (stands i j) [
      | below l ↦ get_or-set_other xs i j y d (λ e. omega (arith, l, e))
      | level l ↦ ap (λ n. get_or once n d) (sym l) ∙ get_or-set_same xs i y d h
      | above l ↦ get_or-set_other xs i j y d (λ e. omega (arith, l, e))
    ] in
    let twice : put_in_order y (in_order (set once j x)) ≡ put_in_order y (in_order xs) =
    ap (λ f. put_in_order f (in_order (set once j x))) (sym there) ∙ in_order-set once j x d long ∙ in_order-set xs i y d h in
    ap in_order (sym (swap_is xs i j d h k)) ∙ put_same y (in_order (set once j x)) (in_order xs) twice

no_fault : Fault
no_fault = record { kind = CannotExpand; range = record { start = 0; «end» = 0 } }

in_order-moved : (xs ys : List Fault) → IsPermutation xs ys → in_order ys ≡ in_order xs
in_order-moved xs ys moved =
    IsPermutation-keeps xs (λ l. in_order l ≡ in_order xs) refl (λ l i j h k same. in_order-swap l i j no_fault h k ∙ same) ys moved

-- a list in order stays as it is
in_order-sorted : (xs : List Fault) → IsSortedBy comes_before xs → in_order xs ≡ xs
in_order-sorted [] up = refl
in_order-sorted (x ∷ []) up = refl
in_order-sorted (x ∷ y ∷ xs) up =
    ap (put_in_order x) (in_order-sorted (y ∷ xs) (λ k d low high.
    let next : suc k + 1 ≡ suc (k + 1) = omega arith in
    rw next at (up (suc k) d (omega arith) (omega (arith, high)))))
    ∙ put_before x y xs (up 0 x (omega arith) (omega arith))

sorted_is : (old new : List Fault) → IsPermutation old new → IsSortedBy comes_before new → new ≡ in_order old
sorted_is old new moved up = sym (in_order-sorted new up) ∙ in_order-moved old new moved

-- what a sort by the key gives
pub sorted_by_key : {F : Type 0} {g : Mut F (Bor Fault × Unit {0}) Key} {f : F} (old new : List Fault) → IsPermutation old new
    → ((key : Fault → Key) → ComputesKey g key f → IsSortedByKey key key_cmp new)
    → ((a : Bor Fault × Unit {0}) (r : Key) (f' : F) → Called g f a r f' → (r ≡ key_of a.0.now) × (f' ≡ f)) → new ≡ in_order old
sorted_by_key {g = g} {f = f} old new moved up computes =
    let sorted = up key_of (always_returns_same g (λ a r. r ≡ key_of a.0.now) f computes) in
    sorted_is old new moved (λ k d low high. sym (key_less (get_or new (k + 1) d) (get_or new k d)) ∙ sorted k d low high)

-- ---- what `in_order` gives

put_moved : (f : Fault) (gs : List Fault) → IsPermutation (f ∷ gs) (put_in_order f gs)
put_moved f [] = IsPermutation-refl (f ∷ [])
put_moved f (g ∷ gs) = go (put_moved f gs) (comes_before g f) refl
  where
    go : IsPermutation (f ∷ gs) (put_in_order f gs) → (p : Bool) → comes_before g f ≡ p → IsPermutation (f ∷ g ∷ gs) (put_in_order f (g ∷ gs))
    go moved true e =
        subst (IsPermutation (f ∷ g ∷ gs)) (sym (put_after f g gs e))
        (IsPermutation-trans (f ∷ g ∷ gs) (g ∷ f ∷ gs) (g ∷ put_in_order f gs)
        (IsPermutation-append_left gs (f ∷ g ∷ []) (g ∷ f ∷ []) (IsPermutation-append_comm (f ∷ []) (g ∷ [])))
        (IsPermutation-cons g (f ∷ gs) (put_in_order f gs) moved))
    go moved false e = subst (IsPermutation (f ∷ g ∷ gs)) (sym (put_before f g gs e)) (IsPermutation-refl (f ∷ g ∷ gs))

pub in_order-same : (fs : List Fault) → IsPermutation fs (in_order fs)
in_order-same [] = IsPermutation-refl []
in_order-same (f ∷ fs) =
    IsPermutation-trans (f ∷ fs) (f ∷ in_order fs) (put_in_order f (in_order fs)) (IsPermutation-cons f fs (in_order fs) (in_order-same fs)) (put_moved f (in_order fs))

-- no fault comes before the one that it follows
abbrev Rises : List Fault → Type 0
Rises [] = ⊤
Rises (x ∷ []) = ⊤
Rises (x ∷ y ∷ xs) = (comes_before y x ≡ false) × Rises (y ∷ xs)

rises_later : (x : Fault) (xs : List Fault) → Rises (x ∷ xs) → Rises xs
rises_later x [] up = tt
rises_later x (y ∷ xs) up = up.1

rises_behind : (f g : Fault) (gs : List Fault) → comes_before g f ≡ true → Rises (g ∷ gs) → Rises (put_in_order f gs) → Rises (g ∷ put_in_order f gs)
rises_behind f g [] e up later = (before-never g f e, tt)
rises_behind f g (h ∷ hs) e up later = go (comes_before h f) refl
  where
    go : (p : Bool) → comes_before h f ≡ p → Rises (g ∷ put_in_order f (h ∷ hs))
    go true test = subst (λ l. Rises (g ∷ l)) (sym (put_after f h hs test)) (up.0, subst Rises (put_after f h hs test) later)
    go false test = subst (λ l. Rises (g ∷ l)) (sym (put_before f h hs test)) (before-never g f e, subst Rises (put_before f h hs test) later)

put_rises : (f : Fault) (gs : List Fault) → Rises gs → Rises (put_in_order f gs)
put_rises f [] up = tt
put_rises f (g ∷ gs) up = go (put_rises f gs (rises_later g gs up)) (comes_before g f) refl
  where
    go : Rises (put_in_order f gs) → (p : Bool) → comes_before g f ≡ p → Rises (put_in_order f (g ∷ gs))
    go later true e = subst Rises (sym (put_after f g gs e)) (rises_behind f g gs e up later)
    go later false e = subst Rises (sym (put_before f g gs e)) (e, up)

in_order_rises : (fs : List Fault) → Rises (in_order fs)
in_order_rises [] = tt
in_order_rises (f ∷ fs) = put_rises f (in_order fs) (in_order_rises fs)

sorted_if : (xs : List Fault) → Rises xs → IsSortedBy comes_before xs
sorted_if [] up k d low high = absurd (omega (arith, high))
sorted_if (x ∷ []) up k d low high = absurd (omega (arith, high))
sorted_if (x ∷ y ∷ xs) up zero d low high = up.0
sorted_if (x ∷ y ∷ xs) up (suc k) d low high =
    let next : suc k + 1 ≡ suc (k + 1) = omega arith in
    rw next (sorted_if (y ∷ xs) up.1 k d (omega arith) (omega (arith, high)))

pub in_order-is_sorted : (fs : List Fault) → IsSortedBy comes_before (in_order fs)
in_order-is_sorted fs = sorted_if (in_order fs) (in_order_rises fs)
