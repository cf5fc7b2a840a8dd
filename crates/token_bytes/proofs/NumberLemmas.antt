-- Numbers of texts: those that are known, and the one that a new text gets.
use Rattle.std.proofs.Common.{◌≡◌, ap, ℕ, suc, ◌<◌, ◌≤◌, List, [], ◌∷◌, ◌++◌, length, refl, arith, nat_eq, None, option_map, Bool, true, false}
use Rattle.std.specs.Cmp.Lexicographic.{pointwise}
use Rattle.token_bytes.specs.Packing.{number_of, with_text}
use Rattle.token_bytes.specs.Numbers.{known_number}

-- equal texts, by the test
abbrev same : List ℕ → List ℕ → Bool
same a b = pointwise nat_eq a b

pub number_of-bound : (text : List ℕ) (table : List (List ℕ)) → number_of text table ≤ length table
number_of-bound text [] = omega arith
number_of-bound text (s ∷ more) = by (same text s) refl (number_of-bound text more) where
  by : (b : Bool) → same text s ≡ b → number_of text more ≤ length more → number_of text (s ∷ more) ≤ length (s ∷ more)
  by true e behind = rw e (omega arith)
  by false e behind = rw e (omega arith)

-- a text with the next number is not known
pub next_is_unknown : (text : List ℕ) (table : List (List ℕ)) → number_of text table ≡ length table → known_number text table ≡ None
next_is_unknown text [] next = refl
next_is_unknown text (s ∷ more) next = by (same text s) refl (λ n. next_is_unknown text more n) where
  by : (b : Bool) → same text s ≡ b → (number_of text more ≡ length more → known_number text more ≡ None) → known_number text (s ∷ more) ≡ None
  by true e rest =
      let zero_is : number_of text (s ∷ more) ≡ 0 = rw e refl in
      absurd (omega (arith, zero_is, next))
  by false e rest =
      let suc_is : number_of text (s ∷ more) ≡ suc (number_of text more) = rw e refl in
      let behind : number_of text more ≡ length more = omega (arith, suc_is, next) in
      rw e (ap (option_map suc) (rest behind))

-- it joins the table at the end
pub with_text-next : (text : List ℕ) (table : List (List ℕ)) → number_of text table ≡ length table → with_text text table ≡ table ++ text ∷ []
with_text-next text [] next = refl
with_text-next text (s ∷ more) next = by (same text s) refl (λ n. with_text-next text more n) where
  by : (b : Bool) → same text s ≡ b → (number_of text more ≡ length more → with_text text more ≡ more ++ text ∷ [])
      → with_text text (s ∷ more) ≡ (s ∷ more) ++ text ∷ []
  by true e rest =
      let zero_is : number_of text (s ∷ more) ≡ 0 = rw e refl in
      absurd (omega (arith, zero_is, next))
  by false e rest =
      let suc_is : number_of text (s ∷ more) ≡ suc (number_of text more) = rw e refl in
      let behind : number_of text more ≡ length more = omega (arith, suc_is, next) in
      rw e (ap (λ l. s ∷ l) (rest behind))

-- any other text does not
pub with_text-there : (text : List ℕ) (table : List (List ℕ)) → number_of text table < length table → with_text text table ≡ table
with_text-there text [] below = absurd (omega arith)
with_text-there text (s ∷ more) below = by (same text s) refl (λ n. with_text-there text more n) where
  by : (b : Bool) → same text s ≡ b → (number_of text more < length more → with_text text more ≡ more) → with_text text (s ∷ more) ≡ s ∷ more
  by true e rest = rw e refl
  by false e rest =
      let suc_is : number_of text (s ∷ more) ≡ suc (number_of text more) = rw e refl in
      let behind : number_of text more < length more = omega (arith, suc_is, below) in
      rw e (ap (λ l. s ∷ l) (rest behind))
