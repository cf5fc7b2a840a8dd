-- Identifiers of ASCII characters, by their bytes. Cited by `is_ascii_ident`.
use Rattle.std.proofs.Common.{◌≡◌, ℕ, ◌<◌, ◌≤◌, ◌+◌, ◌==◌, ◌&&◌, ◌||◌, Bool, true, false, cond, not, nat_lt, List, [], ◌∷◌, drop, length, refl, sym, ap, ◌∙◌, arith, chars, IsUtf8, one-add}
use Rattle.std.specs.List.{list_all, prefix_len}
use Rattle.std.proofs.Math.Dec.{eqb-suc-zero}
use Rattle.std.proofs.lemmas.Bool.Decides.{nat_tests}
use Rattle.std.proofs.lemmas.Str.{chars-nil}
use Rattle.unicode_ident.proofs.IdentLemmas.{is_xid_continue-ascii, is_xid_start-ascii}
use Rattle.rustc_lexer.specs.Ascii.{are_ascii}
use Rattle.rustc_lexer.specs.Character.{ascii_part, char_at, is_id_continue, is_id_start, is_ident, is_whitespace}
use Rattle.rustc_lexer.specs.FirstCharacter.{begins_more, start_of}
use Rattle.rustc_lexer.proofs.AsciiLemmas.{ascii_cons, ascii_rest}
use Rattle.rustc_lexer.proofs.StartLemmas.{told}

-- nothing is left behind those that pass exactly if all pass
pub nothing_left : (q : ℕ → Bool) (bs : List ℕ) → (length (drop (prefix_len q bs) bs) == 0) ≡ list_all q bs
nothing_left q [] = refl
nothing_left q (b ∷ bs) = go (q b) (nothing_left q bs)
  where
    go : (t : Bool) → (length (drop (prefix_len q bs) bs) == 0) ≡ list_all q bs → (length (drop (cond t (1 + prefix_len q bs) 0) (b ∷ bs)) == 0) ≡ (t && list_all q bs)
    go true e = rw one-add e
    go false e = eqb-suc-zero (length bs)

-- the table's answer for a letter
start_letter : (b : ℕ) → (start_of b == 0x61) ≡ (nat_lt b 128 && (not (is_whitespace b) && is_id_start b))
start_letter b = by_tests (nat_lt b 128) (is_whitespace b) (is_id_start b) (begins_more b)
  where
    by_tests : (a w s m : Bool) → (told a w s m == 0x61) ≡ (a && (not w && s))
    by_tests false w s m = refl
    by_tests true true s m = refl
    by_tests true false true m = refl
    by_tests true false false true = refl
    by_tests true false false false = refl

-- what begins an identifier is no white space, and may continue one
no_white : (b : ℕ) → b < 128 → is_id_start b ≡ true → is_whitespace b ≡ false
no_white b low start = let ascii = is_xid_start-ascii b low in grind (arith, nat_tests)

continues : (b : ℕ) → b < 128 → is_id_start b ≡ true → is_id_continue b ≡ true
continues b low start = let ascii = is_xid_start-ascii b low in let next = is_xid_continue-ascii b low in grind (arith, nat_tests)

-- bytes of ASCII that pass are characters that pass
all_parts : (p : ℕ → Bool) (bs : List ℕ) → IsUtf8 bs → list_all (ascii_part p) bs ≡ (list_all p (chars bs) && are_ascii bs)
all_parts p [] u = rw chars-nil refl
all_parts p (b ∷ bs) u = go (nat_lt b 128) refl (λ v. all_parts p bs v)
  where
    shuffle : (x y z : Bool) → (x && (y && z)) ≡ ((x && y) && z)
    shuffle true y z = refl
    shuffle false y z = refl

    none : (x : Bool) → false ≡ (x && false)
    none true = refl
    none false = refl

    go : (t : Bool) → nat_lt b 128 ≡ t → (IsUtf8 bs → list_all (ascii_part p) bs ≡ (list_all p (chars bs) && are_ascii bs))
        → ((t && p b) && list_all (ascii_part p) bs) ≡ (list_all p (chars (b ∷ bs)) && (t && are_ascii bs))
    go true e again =
        let low : b < 128 = grind (arith, nat_tests, e) in
        ap (λ z. p b && z) (again (ascii_rest b bs u low)) ∙ shuffle (p b) (list_all p (chars bs)) (are_ascii bs) ∙ ap (λ cs. list_all p cs && are_ascii bs) (sym (ascii_cons b bs u low))
    go false e again = none (list_all p (chars (b ∷ bs)))

-- the table's answer for the first byte is that for the first character
first_letter : (cs : List ℕ) (b : ℕ) → (b < 128 → char_at cs 0 ≡ b) → (128 ≤ b → 128 ≤ char_at cs 0)
    → (start_of b == 0x61) ≡ (nat_lt (char_at cs 0) 128 && (not (is_whitespace (char_at cs 0)) && is_id_start (char_at cs 0)))
first_letter cs b low high = start_letter b ∙ go (nat_lt b 128) refl
  where
    go : (t : Bool) → nat_lt b 128 ≡ t → (t && (not (is_whitespace b) && is_id_start b)) ≡ (nat_lt (char_at cs 0) 128 && (not (is_whitespace (char_at cs 0)) && is_id_start (char_at cs 0)))
    go true e =
        let same : char_at cs 0 ≡ b = low (grind (arith, nat_tests, e)) in
        rw (same, e) refl
    go false e =
        let beyond : 128 ≤ char_at cs 0 = high (grind (arith, nat_tests, e)) in
        let is : nat_lt (char_at cs 0) 128 ≡ false = grind (arith, nat_tests) in
        rw is refl

no_start : is_id_start 0 ≡ false
no_start = rw (is_xid_start-ascii 0 (omega arith)) refl

and_false : (x : Bool) → (x && false) ≡ false
and_false true = refl
and_false false = refl

-- a letter first, and then bytes that may continue, are an identifier of ASCII characters
pub ascii_ident : (bs : List ℕ) → IsUtf8 bs → (b : ℕ) → (b < 128 → char_at (chars bs) 0 ≡ b) → (128 ≤ b → 128 ≤ char_at (chars bs) 0)
    → ((start_of b == 0x61) && list_all (ascii_part is_id_continue) bs) ≡ (is_ident (chars bs) && are_ascii bs)
ascii_ident [] u b low high = rw (first_letter (chars []) b low high, chars-nil, no_start) refl
ascii_ident (x ∷ bs) u b low high = rw (first_letter (chars (x ∷ bs)) b low high) (go (nat_lt x 128) refl)
  where
    letter : ℕ → Bool
    letter c = nat_lt c 128 && (not (is_whitespace c) && is_id_start c)

    started : (s : Bool) → is_id_start x ≡ s → x < 128 → ((not (is_whitespace x) && s) && (is_id_continue x && list_all (ascii_part is_id_continue) bs)) ≡ ((s && list_all is_id_continue (chars bs)) && are_ascii bs)
    started false e lower = ap (λ z. z && (is_id_continue x && list_all (ascii_part is_id_continue) bs)) (and_false (not (is_whitespace x)))
    started true e lower = rw (no_white x lower e, continues x lower e) (all_parts is_id_continue bs (ascii_rest x bs u lower))

    go : (t : Bool) → nat_lt x 128 ≡ t → (letter (char_at (chars (x ∷ bs)) 0) && ((t && is_id_continue x) && list_all (ascii_part is_id_continue) bs)) ≡ (is_ident (chars (x ∷ bs)) && (t && are_ascii bs))
    go false e = and_false (letter (char_at (chars (x ∷ bs)) 0)) ∙ sym (and_false (is_ident (chars (x ∷ bs))))
    go true e =
        let lower : x < 128 = grind (arith, nat_tests, e) in
        rw (ascii_cons x bs u lower, e) (started (is_id_start x) refl lower)
