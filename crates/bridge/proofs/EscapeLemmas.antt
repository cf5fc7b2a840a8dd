-- Texts of doc comments: the last carriage return, and which characters are escaped.
use Rattle.std.proofs.Common.{◌≡◌, ℕ, zero, suc, ◌+◌, ◌-◌, ◌<◌, List, [], ◌∷◌, ◌++◌, Bool, true, false, length, take, drop, get_or, refl, sym, ap, ◌∙◌, append_assoc, arith}
use Rattle.std.specs.Prelude.{nat_eq, Some, None}
use Rattle.std.proofs.lemmas.Bool.Decides.{nat_tests}
use Rattle.std.proofs.lemmas.Str.{IsCharBoundary-after_ascii}
use Rattle.std.specs.List.{slice_range}
use Rattle.std.specs.Str.{IsCharBoundary, IsUtf8}
use Rattle.memchr.specs.Find.{IsFirstByte, is_byte2}
use Rattle.bridge.specs.TokenSteps.{escaped, without_last_return}

-- ---- a last carriage return

pub return_taken : (bs : List ℕ) (n : ℕ) → length bs ≡ n + 1 → get_or bs n 0 ≡ 13 → take n bs ≡ without_last_return bs
return_taken [] n long e = absurd (omega (arith, long))
return_taken (b ∷ []) zero long e = rw e refl
return_taken (b ∷ []) (suc n) long e = absurd (omega (arith, long))
return_taken (b ∷ c ∷ more) zero long e = absurd (omega (arith, long))
return_taken (b ∷ c ∷ more) (suc n) long e = ap (λ l. b ∷ l) (return_taken (c ∷ more) n (omega (arith, long)) e)

single : (b : ℕ) → nat_eq b 13 ≡ false → without_last_return (b ∷ []) ≡ b ∷ []
single b e = rw e refl

pub no_return : (bs : List ℕ) (n : ℕ) → length bs ≡ n + 1 → nat_eq (get_or bs n 0) 13 ≡ false → bs ≡ without_last_return bs
no_return [] n long e = refl
no_return (b ∷ []) zero long e = sym (single b e)
no_return (b ∷ []) (suc n) long e = absurd (omega (arith, long))
no_return (b ∷ c ∷ more) zero long e = absurd (omega (arith, long))
no_return (b ∷ c ∷ more) (suc n) long e = ap (λ l. b ∷ l) (no_return (c ∷ more) n (omega (arith, long)) e)

-- ---- escapes

pub escape_is_ascii : (b : ℕ) → is_byte2 92 34 b ≡ true → b < 128
escape_is_ascii b e = grind (arith, nat_tests)

pub one_escaped : (b : ℕ) (more : List ℕ) → is_byte2 92 34 b ≡ true → escaped (b ∷ more) ≡ 92 ∷ (b ∷ escaped more)
one_escaped b more e = rw e refl

one_kept : (b : ℕ) (more : List ℕ) → is_byte2 92 34 b ≡ false → escaped (b ∷ more) ≡ b ∷ escaped more
one_kept b more e = rw e refl

pub not_true : (b : Bool) → (b ≡ true → ⊥) → b ≡ false
not_true true h = absurd (h refl)
not_true false h = refl

-- up to the first character that is escaped the text is as it was
escaped_first : (bs : List ℕ) (at : ℕ) → at < length bs → ((k : ℕ) → k < at → is_byte2 92 34 (get_or bs k 0) ≡ true → ⊥)
    → is_byte2 92 34 (get_or bs at 0) ≡ true → escaped bs ≡ take at bs ++ (92 ∷ (get_or bs at 0 ∷ escaped (drop (suc at) bs)))
escaped_first [] at lt none marked = absurd (omega (arith, lt))
escaped_first (b ∷ more) zero lt none marked = one_escaped b more marked
escaped_first (b ∷ more) (suc n) lt none marked =
    one_kept b more (not_true (is_byte2 92 34 b) (none 0 (omega arith)))
    ∙ ap (λ l. b ∷ l) (escaped_first more n (omega (arith, lt)) (λ k l. none (suc k) (omega (arith, l))) marked)

-- a text where nothing is escaped
pub escaped_none : (bs : List ℕ) → ((k : ℕ) → k < length bs → is_byte2 92 34 (get_or bs k 0) ≡ true → ⊥) → escaped bs ≡ bs
escaped_none [] none = refl
escaped_none (b ∷ more) none =
    one_kept b more (not_true (is_byte2 92 34 b) (none 0 (omega arith)))
    ∙ ap (λ l. b ∷ l) (escaped_none more (λ k l. none (suc k) (omega (arith, l))))

-- the one byte at a place
one_byte : (bs : List ℕ) (at : ℕ) → at < length bs → take 1 (drop at bs) ≡ get_or bs at 0 ∷ []
one_byte [] at lt = absurd (omega (arith, lt))
one_byte (b ∷ more) zero lt = refl
one_byte (b ∷ more) (suc n) lt = one_byte more n (omega (arith, lt))

-- what the search finds, read as it is needed here
module _ (bs : List ℕ) (at : ℕ) (found : IsFirstByte (is_byte2 92 34) bs (Some at)) where
  inside : at < length bs
  inside = found.0.high

  pub after_marked : IsUtf8 bs → IsCharBoundary bs (at + 1)
  after_marked u = IsCharBoundary-after_ascii bs at u inside (escape_is_ascii (get_or bs at 0) found.1)

  -- the text so far, a `\`, and the character that is escaped
  pub escapes_one : (out : List ℕ) → (((out ++ take at bs) ++ (92 ∷ [])) ++ slice_range bs at (at + 1)) ++ escaped (drop (at + 1) bs) ≡ out ++ escaped bs
  escapes_one out =
      let one : slice_range bs at (at + 1) ≡ get_or bs at 0 ∷ [] =
      let n : at + 1 - at ≡ 1 = omega arith in
      ap (λ k. take k (drop at bs)) n ∙ one_byte bs at inside in
      let n : at + 1 ≡ suc at = omega arith in
      let first = escaped_first bs at inside (λ k l. found.0.before k (omega arith) l) found.1 in
      rw (one, n, first) (simp append_assoc)

pub escapes_none : (bs : List ℕ) → IsFirstByte (is_byte2 92 34) bs None → escaped bs ≡ bs
escapes_none bs none = escaped_none bs (λ k l. none k (omega arith) l)
