-- Numbers of texts in a table without a text twice.
use Rattle.std.proofs.Common.{◌≡◌, ◌∙◌, ap, sym, subst, refl, ℕ, zero, suc, ◌+◌, ◌<◌, List, [], ◌∷◌, ◌++◌, append_assoc, length, take, drop, set, get_or, nat_eq, arith, Option, Some, None, option_map, Bool, true, false, inl, inr}
use Rattle.std.proofs.lemmas.List.{get_or_append_left, get_or_at, get_or-set_other, get_or-set_same, length_push, take-append-drop, take_more}
use Rattle.std.proofs.Math.Seq.{length-take-le}
use Rattle.std.specs.Cmp.Lexicographic.{pointwise, bytes_decides}
use Rattle.token_bytes.specs.Packing.{number_of}
use Rattle.token_bytes.specs.Numbers.{AreDistinct, AreMet, class_at, class_of, known_number}
use Rattle.token_bytes.proofs.ChainLemmas.{less_or, same_or}
use Rattle.token_bytes.proofs.DistinctLemmas.{distinct_take, last_is_new}

-- a text that is nowhere in a table gets the next number
pub number_absent : (text : List ℕ) (table : List (List ℕ)) → ((i : ℕ) → i < length table → get_or table i [] ≡ text → ⊥) → number_of text table ≡ length table
number_absent text [] absent = refl
number_absent text (s ∷ more) absent =
    by (pointwise nat_eq text s) refl (number_absent text more (λ i below is. absent (suc i) (omega (arith, below)) is))
  where
    by : (b : Bool) → pointwise nat_eq text s ≡ b → number_of text more ≡ length more → number_of text (s ∷ more) ≡ suc (length more)
    by true e rest = absurd (absent zero (omega arith) (sym ((bytes_decides text s).0 e)))
    by false e rest = rw e (ap suc rest)

-- a text that is new to those before it has their count as its number
number_here : (x : List ℕ) (front more : List (List ℕ)) → known_number x front ≡ None → number_of x (front ++ x ∷ more) ≡ length front
number_here x [] more new = rw ((bytes_decides x x).1 refl) refl
number_here x (s ∷ front) more new = by (pointwise nat_eq x s) refl (number_here x front more) where
  unknown : (o : Option ℕ) → option_map suc o ≡ None → o ≡ None
  unknown None e = refl
  unknown (Some n) e = absurd (cc e)

  by : (b : Bool) → pointwise nat_eq x s ≡ b → (known_number x front ≡ None → number_of x (front ++ x ∷ more) ≡ length front)
      → number_of x (s ∷ (front ++ x ∷ more)) ≡ suc (length front)
  by true e rest =
      let known : known_number x (s ∷ front) ≡ Some 0 = rw e refl in
      absurd (cc (sym known ∙ new))
  by false e rest =
      let known : known_number x (s ∷ front) ≡ option_map suc (known_number x front) = rw e refl in
      rw e (ap suc (rest (unknown (known_number x front) (sym known ∙ new))))

-- so each text of the table has its own place as its number
pub number_there : (text : List ℕ) (table : List (List ℕ)) (i : ℕ) → AreDistinct table → i < length table → get_or table i [] ≡ text → number_of text table ≡ i
number_there text table i distinct below is =
    let x : List ℕ = get_or table i [] in
    let front : List (List ℕ) = take i table in
    let next : take (i + 1) table ≡ front ++ x ∷ [] = take_more table i [] below in
    let new : known_number x front ≡ None = last_is_new front (take (i + 1) table) x next (distinct_take (i + 1) table distinct) in
    let whole : table ≡ front ++ x ∷ drop (i + 1) table = sym (take-append-drop (i + 1) table) ∙ ap (λ l. l ++ drop (i + 1) table) next ∙ append_assoc front (x ∷ []) (drop (i + 1) table) in
    subst (λ t. number_of t table ≡ i) is
    (ap (number_of x) whole ∙ number_here x front (drop (i + 1) table) new ∙ length-take-le i table (omega (arith, below)))

-- one text more is met, or the last one is gone
pub met_more : (recent : List ℕ) (table : List (List ℕ)) (text : List ℕ) (k v : ℕ) → AreMet recent table → k ≡ class_of 64 text → k < length recent → 0 < v
    → AreMet (set recent k v) (table ++ text ∷ [])
met_more recent table text k v met class below some i lt =
    elim (less_or i (length table) (omega (arith, lt, length_push table text))) [
      | inl old ↦
          let same : class_at 64 (table ++ text ∷ []) i ≡ class_at 64 table i = ap (class_of 64) (get_or_append_left table (text ∷ []) [] i old) in
          subst (λ c. 0 < get_or (set recent k v) c 0) (sym same) (stays (class_at 64 table i) (met i old))
      | inr is ↦
          let here : class_at 64 (table ++ text ∷ []) i ≡ k =
          ap (class_of 64) (ap (λ j. get_or (table ++ text ∷ []) j []) is ∙ get_or_at table text [] [] (length table) refl) ∙ sym class in
          subst (λ c. 0 < get_or (set recent k v) c 0) (sym here) put
    ]
  where
    put : 0 < get_or (set recent k v) k 0
    put = subst (λ n. 0 < n) (sym (get_or-set_same recent k v 0 below)) some

    stays : (c : ℕ) → 0 < get_or recent c 0 → 0 < get_or (set recent k v) c 0
    stays c h = elim (same_or c k) [
      | inl e ↦ subst (λ j. 0 < get_or (set recent k v) j 0) (sym e) put
      | inr other ↦ subst (λ n. 0 < n) (sym (get_or-set_other recent k c v 0 other)) h
    ]

pub met_fewer : (recent : List ℕ) (table : List (List ℕ)) (text : List ℕ) → AreMet recent (table ++ text ∷ []) → AreMet recent table
met_fewer recent table text met i lt =
    let same : class_at 64 (table ++ text ∷ []) i ≡ class_at 64 table i = ap (class_of 64) (get_or_append_left table (text ∷ []) [] i lt) in
    subst (λ c. 0 < get_or recent c 0) same (met i (omega (arith, lt, length_push table text)))
