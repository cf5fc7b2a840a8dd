-- Tables in which each text is new to those before it.
use Rattle.std.proofs.Common.{◌≡◌, sym, subst, ℕ, List, [], ◌∷◌, ◌++◌, length, take, drop, append_assoc, append-nil, None}
use Rattle.std.proofs.lemmas.List.{take-append-drop}
use Rattle.token_bytes.specs.Packing.{number_of}
use Rattle.token_bytes.specs.Numbers.{AreDistinct, AreNew, known_number}
use Rattle.token_bytes.proofs.NumberLemmas.{next_is_unknown}

new_more : (before xs : List (List ℕ)) (x : List ℕ) → AreNew before xs → known_number x (before ++ xs) ≡ None → AreNew before (xs ++ x ∷ [])
new_more before [] x new unknown = (rw (append-nil before) at unknown, tt)
new_more before (t ∷ more) x new unknown =
    (new.0, new_more (before ++ t ∷ []) more x new.1 (rw (sym (append_assoc before (t ∷ []) more)) at unknown))

new_first : (before xs ys : List (List ℕ)) → AreNew before (xs ++ ys) → AreNew before xs
new_first before [] ys new = tt
new_first before (t ∷ more) ys new = (new.0, new_first (before ++ t ∷ []) more ys new.1)

new_last : (before xs : List (List ℕ)) (x : List ℕ) → AreNew before (xs ++ x ∷ []) → known_number x (before ++ xs) ≡ None
new_last before [] x new = rw (append-nil before) new.0
new_last before (t ∷ more) x new = rw (append_assoc before (t ∷ []) more) at (new_last (before ++ t ∷ []) more x new.1)

pub distinct_front : (front : List (List ℕ)) (x : List ℕ) → AreDistinct (front ++ x ∷ []) → AreDistinct front
distinct_front front x distinct = new_first [] front (x ∷ []) distinct

-- a new text makes no text come twice
pub distinct_push : (text : List ℕ) (table : List (List ℕ)) → AreDistinct table → number_of text table ≡ length table → AreDistinct (table ++ text ∷ [])
distinct_push text table distinct next = new_more [] table text distinct (next_is_unknown text table next)

pub distinct_take : (n : ℕ) (table : List (List ℕ)) → AreDistinct table → AreDistinct (take n table)
distinct_take n table distinct = new_first [] (take n table) (drop n table) (subst (AreNew []) (sym (take-append-drop n table)) distinct)

-- the last text is new
pub last_is_new : (front table : List (List ℕ)) (x : List ℕ) → table ≡ front ++ x ∷ [] → AreDistinct table → known_number x front ≡ None
last_is_new front table x are distinct = new_last [] front x (subst (AreNew []) are distinct)
