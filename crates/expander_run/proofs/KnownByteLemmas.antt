-- The known bytes of a reader or writer, call by call.
use Rattle.std.proofs.Common.{◌≡◌, ℕ, List, [], ◌++◌, Option, Some, None, sym, ap, ◌∙◌, append_assoc, append-nil, take, drop, length, ◌-◌, ◌+◌, length-drop, arith, take-add, Bool, false, nat_eq, ◌||◌, ◌&&◌}
use Rattle.std.proofs.lemmas.List.{take_all}
use Rattle.std.proofs.lemmas.Bool.Decides.{nat_tests}
use Rattle.std.specs.Io.KnownBytes.{Appends}

-- nothing is appended where nothing changed
pub appends_none : (a : Option (List ℕ)) → Appends a a []
appends_none None = tt
appends_none (Some xs) = sym (append-nil xs)

-- one append after another
pub appends_more : (a b c : Option (List ℕ)) (xs ys : List ℕ) → Appends a b xs → Appends b c ys → Appends a c (xs ++ ys)
appends_more None b c xs ys p q = tt
appends_more (Some ds) None c xs ys p q = absurd p
appends_more (Some ds) (Some bs) None xs ys p q = absurd q
appends_more (Some ds) (Some bs) (Some cs) xs ys p q = q ∙ ap (λ (zs : List ℕ). zs ++ ys) p ∙ append_assoc ds xs ys

-- the rest from a place on, as a slice of it
rest_whole : (bs : List ℕ) (at : ℕ) → take (length bs - at) (drop at bs) ≡ drop at bs
rest_whole bs at = take_all (length bs - at) (drop at bs) (omega (arith, length-drop at bs))

-- what was taken, and n more of the rest
pub chunk : (bs : List ℕ) (at n : ℕ) → take at bs ++ take n (take (length bs - at) (drop at bs)) ≡ take (at + n) bs
chunk bs at n = rw (rest_whole bs at) (sym (take-add at n bs))

-- a write that took some bytes did not fail
pub still_fresh : (old new more : Bool) (n : ℕ) → old ≡ false → (n ≡ 0 → ⊥) → new ≡ (old || (nat_eq n 0 && more)) → new ≡ false
still_fresh old new more n e h f =
    let ne : nat_eq n 0 ≡ false = grind (arith, nat_tests, h) in
    f ∙ ap (λ (b : Bool). b || (nat_eq n 0 && more)) e ∙ ap (λ (b : Bool). false || (b && more)) ne
