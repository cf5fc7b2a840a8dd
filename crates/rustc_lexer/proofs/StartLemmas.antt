-- The first lexeme, by its first byte.
use Rattle.std.proofs.Common.{◌≡◌, ℕ, ◌<◌, ◌==◌, ◌&&◌, ◌||◌, Bool, true, false, not, nat_lt, List, refl, sym, ap, ◌∙◌, arith, if◌then◌else◌}
use Rattle.std.proofs.lemmas.Bool.Decides.{nat_tests}
use Rattle.unicode_ident.proofs.IdentLemmas.{is_xid_start-ascii}
use Rattle.rustc_lexer.specs.Character.{ascii_part, char_at, is_whitespace, is_id_start, is_digit}
use Rattle.rustc_lexer.specs.Lexeme.{is_prefix_mark, lexeme, lexeme_of, one_char_kind, white_space, word}
use Rattle.rustc_lexer.specs.FirstCharacter.{sign, begins_more, start_of, start_told}
use Rattle.rustc_lexer.proofs.FrontRowLemmas.{by_letter, by_sign, by_white, hash_no_start, no_comment, no_start}
use Rattle.rustc_lexer.proofs.WordLemmas.{either_left, either_right}

-- the answers of the tests give what the byte tells
abbrev pub told : Bool → Bool → Bool → Bool → ℕ
told ascii white start more =
    if not ascii then 0x3f else if white then 0x20 else if start then 0x61 else if more then 0x3f else 0x2e

is_other : {X : Type 0} (m n : ℕ) → (m == n) ≡ false → m ≡ n → X
is_other m n other same = absurd (let t : (m == n) ≡ true = grind (arith, nat_tests) in let f : false ≡ true = sym other ∙ t in cc)

pub told_white : (b : ℕ) → (start_of b == 0x20) ≡ ascii_part is_whitespace b
told_white b = by_tests (nat_lt b 128) (is_whitespace b) (is_id_start b) (begins_more b)
  where
    by_tests : (a w s m : Bool) → (told a w s m == 0x20) ≡ (a && w)
    by_tests false w s m = refl
    by_tests true true s m = refl
    by_tests true false true m = refl
    by_tests true false false true = refl
    by_tests true false false false = refl

-- a byte of ASCII is the first character
low_first : (cs : List ℕ) (b : ℕ) → (b < 128 → char_at cs 0 ≡ b) → nat_lt b 128 ≡ true → char_at cs 0 ≡ b
low_first cs b low e = low (grind (arith, nat_tests))

-- what is not this character, by what its first character passes
is_not : (w : ℕ) (p : ℕ → Bool) (b : ℕ) → p w ≡ false → p b ≡ true → (b == w) ≡ false
is_not w p b fails passes = by_test (b == w) refl
  where
    by_test : (t : Bool) → (b == w) ≡ t → t ≡ false
    by_test false e = refl
    by_test true e = (let same : b ≡ w = grind (arith, nat_tests) in sym passes ∙ ap p same ∙ fails)

begins_other : (w : ℕ) (cs : List ℕ) (b : ℕ) → char_at cs 0 ≡ b → (b == w) ≡ false → (char_at cs 0 == w) ≡ false
begins_other w cs b e other = ap (λ c. c == w) e ∙ other

pub start_white : (cs : List ℕ) (b : ℕ) → (b < 128 → char_at cs 0 ≡ b) → start_of b ≡ 0x20 → lexeme cs ≡ white_space cs
start_white cs b low h = by_tests (nat_lt b 128) (is_whitespace b) (is_id_start b) (begins_more b) refl refl h
  where
    by_tests : (a w s m : Bool) → nat_lt b 128 ≡ a → is_whitespace b ≡ w → told a w s m ≡ 0x20 → lexeme cs ≡ white_space cs
    by_tests true true s m e f h =
        let c = low_first cs b low e in
        no_comment cs (begins_other 47 cs b c (is_not 47 is_whitespace b refl f)) (begins_other 35 cs b c (is_not 35 is_whitespace b refl f)) ∙ by_white cs b c f
    by_tests false w s m e f h = is_other 0x3f 0x20 refl h
    by_tests true false true m e f h = is_other 0x61 0x20 refl h
    by_tests true false false true e f h = is_other 0x3f 0x20 refl h
    by_tests true false false false e f h = is_other 0x2e 0x20 refl h

-- a word begins there
pub record BeginsWord (cs : List ℕ) (b : ℕ) : Type 0 where
  pub first : char_at cs 0 ≡ b
  pub start : is_id_start b ≡ true
  pub same : lexeme cs ≡ word cs

begins_word : (cs : List ℕ) (b : ℕ) → (b < 128 → char_at cs 0 ≡ b) → nat_lt b 128 ≡ true → is_whitespace b ≡ false → is_id_start b ≡ true → BeginsWord cs b
begins_word cs b low e f g =
    let c = low_first cs b low e in
    record {
      first = c;
      start = g;
      same = no_comment cs (begins_other 47 cs b c (is_not 47 is_id_start b no_start g)) (begins_other 35 cs b c (is_not 35 is_id_start b hash_no_start g)) ∙ by_letter cs b c f g;
    }

pub starts_word : (cs : List ℕ) (b : ℕ) → (b < 128 → char_at cs 0 ≡ b) → start_of b ≡ 0x61 → BeginsWord cs b
starts_word cs b low h = by_tests (nat_lt b 128) (is_whitespace b) (is_id_start b) (begins_more b) refl refl refl h
  where
    by_tests : (a w s m : Bool) → nat_lt b 128 ≡ a → is_whitespace b ≡ w → is_id_start b ≡ s → told a w s m ≡ 0x61 → BeginsWord cs b
    by_tests true false true m e f g h = begins_word cs b low e f g
    by_tests false w s m e f g h = is_other 0x3f 0x61 refl h
    by_tests true true s m e f g h = is_other 0x20 0x61 refl h
    by_tests true false false true e f g h = is_other 0x3f 0x61 refl h
    by_tests true false false false e f g h = is_other 0x2e 0x61 refl h

-- a word is one in both readings
pub word_starts : (cs : List ℕ) (b : ℕ) → BeginsWord cs b → is_id_start (char_at cs 0) ≡ true
word_starts cs b w = ap is_id_start w.first ∙ w.start

pub word_same : (cs : List ℕ) (b : ℕ) → BeginsWord cs b → lexeme cs ≡ word cs
word_same cs b w = w.same

sign_alone : (cs : List ℕ) (b : ℕ) → char_at cs 0 ≡ b → (b == 0x27) ≡ false → (b == 0x22) ≡ false → sign cs ≡ lexeme_of (one_char_kind b) 1
sign_alone cs b e quote string = rw (e, quote, string) refl

pub start_alone : (cs : List ℕ) (b : ℕ) → (b < 128 → char_at cs 0 ≡ b) → start_of b ≡ 0x2e → lexeme cs ≡ lexeme_of (one_char_kind b) 1
start_alone cs b low h = by_tests (nat_lt b 128) (is_whitespace b) (is_id_start b) (begins_more b) refl refl refl refl h
  where
    by_tests : (a w s m : Bool) → nat_lt b 128 ≡ a → is_whitespace b ≡ w → is_id_start b ≡ s → begins_more b ≡ m → told a w s m ≡ 0x2e →
        lexeme cs ≡ lexeme_of (one_char_kind b) 1
    by_tests true false false false e f g i h =
        let c = low_first cs b low e in
        let front = either_left (is_digit b || b == 0x2f) (b == 0x23 || (b == 0x22 || b == 0x27)) i in
        let marks = either_right (is_digit b || b == 0x2f) (b == 0x23 || (b == 0x22 || b == 0x27)) i in
        let quotes = either_right (b == 0x23) (b == 0x22 || b == 0x27) marks in
        no_comment cs (begins_other 47 cs b c (either_right (is_digit b) (b == 0x2f) front)) (begins_other 35 cs b c (either_left (b == 0x23) (b == 0x22 || b == 0x27) marks))
        ∙ by_sign cs b c f g (either_left (is_digit b) (b == 0x2f) front)
        ∙ sign_alone cs b c (either_right (b == 0x22) (b == 0x27) quotes)
        (either_left (b == 0x22) (b == 0x27) quotes)
    by_tests false w s m e f g i h = is_other 0x3f 0x2e refl h
    by_tests true true s m e f g i h = is_other 0x20 0x2e refl h
    by_tests true false true m e f g i h = is_other 0x61 0x2e refl h
    by_tests true false false true e f g i h = is_other 0x3f 0x2e refl h

-- ---- what stands behind a word

not_mark : (m : ℕ) → start_of m ≡ 0x3f → (b : ℕ) → (start_of b == 0x3f) ≡ false → (b == m) ≡ false
not_mark m e b h = by_test (b == m) refl
  where
    by_test : (t : Bool) → (b == m) ≡ t → t ≡ false
    by_test false f = refl
    by_test true f =
        let same : b ≡ m = grind (arith, nat_tests) in
        let yes : (start_of b == 0x3f) ≡ true = ap (λ n. n == 0x3f) (ap start_of same ∙ e) in
        sym yes ∙ h

is_low : (b : ℕ) → (start_of b == 0x3f) ≡ false → b < 128
is_low b h = by_test (nat_lt b 128) refl h
  where
    by_test : (t : Bool) → nat_lt b 128 ≡ t → (start_told t (is_whitespace b) (is_id_start b) b == 0x3f) ≡ false → b < 128
    by_test true e h = grind (arith, nat_tests)
    by_test false e h = absurd (let no : true ≡ false = h in cc)

told_hash : start_of 0x23 ≡ 0x3f
told_hash = rw (is_xid_start-ascii 0x23 (omega arith)) refl

told_string : start_of 0x22 ≡ 0x3f
told_string = rw (is_xid_start-ascii 0x22 (omega arith)) refl

told_quote : start_of 0x27 ≡ 0x3f
told_quote = rw (is_xid_start-ascii 0x27 (omega arith)) refl

-- what the first byte tells of is begun by no hash
pub no_hash : (cs : List ℕ) (b n : ℕ) → (b < 128 → char_at cs 0 ≡ b) → start_of b ≡ n → (n == 0x3f) ≡ false → (char_at cs 0 == 0x23) ≡ false
no_hash cs b n low e h =
    let told : (start_of b == 0x3f) ≡ false = ap (λ m. m == 0x3f) e ∙ h in
    begins_other 0x23 cs b (low (is_low b told)) (not_mark 0x23 told_hash b told)

-- a byte of ASCII, and no mark of literals
pub record EndsWord (b : ℕ) : Type 0 where
  pub low : b < 128
  pub none : is_prefix_mark b ≡ false

pub ends_word : (b n : ℕ) → n ≡ start_of b → (n ≡ 0x3f → ⊥) → EndsWord b
ends_word b n e other =
    let apart : start_of b ≡ 0x3f → ⊥ = λ f. other (e ∙ f) in
    let h : (start_of b == 0x3f) ≡ false = grind (arith, nat_tests) in
    let hash : (b == 0x23) ≡ false = not_mark 0x23 told_hash b h in
    let string : (b == 0x22) ≡ false = not_mark 0x22 told_string b h in
    let quote : (b == 0x27) ≡ false = not_mark 0x27 told_quote b h in
    record { low = is_low b h; none = rw (hash, string, quote) refl }
