-- ASCII bytes at the front of a text are its characters.
use Rattle.std.proofs.Common.{◌≡◌, ℕ, ◌+◌, ◌≤◌, ◌<◌, ◌&&◌, Bool, true, false, nat_lt, List, [], ◌∷◌, ◌++◌, length, drop, get_or, refl, sym, ◌∙◌, ap, subst, arith, one-add, chars, encode_utf8, encode_utf8_all, IsUtf8, IsCharBoundary}
use Rattle.std.specs.List.{prefix_len}
use Rattle.std.proofs.lemmas.Bool.Decides.{nat_tests}
use Rattle.std.proofs.lemmas.Str.{chars_past_char, chars-nil, encode_ascii, encodes-chars, IsUtf8-past_char, IsCharBoundary-start, IsCharBoundary-from_rest}
use Rattle.std.proofs.lemmas.List.{nil_from_length}
use Rattle.rustc_lexer.specs.Character.{ascii_part, char_at}

pub ascii_cons : (b : ℕ) (bs : List ℕ) → IsUtf8 (b ∷ bs) → b < 128 → chars (b ∷ bs) ≡ b ∷ chars bs
ascii_cons b bs u l = chars_past_char (b ∷ bs) bs b u (rw (encode_ascii b l) refl)

pub ascii_rest : (b : ℕ) (bs : List ℕ) → IsUtf8 (b ∷ bs) → b < 128 → IsUtf8 bs
ascii_rest b bs u l = IsUtf8-past_char (b ∷ bs) bs b u (rw (encode_ascii b l) refl)

-- ---- the first byte

pub first_none : (text bs : List ℕ) → bs ≡ text → length bs ≡ 0 → char_at (chars text) 0 ≡ 0
first_none text bs same none = rw (nil_from_length text (ap length (sym same) ∙ none), chars-nil) refl

one_ascii : (bs : List ℕ) → IsUtf8 bs → get_or bs 0 0 < 128 → 0 < length bs → char_at (chars bs) 0 ≡ get_or bs 0 0
one_ascii [] u l some = absurd (omega arith)
one_ascii (b ∷ bs) u l some = rw (ascii_cons b bs u l) refl

pub first_ascii : (text bs : List ℕ) → bs ≡ text → IsUtf8 text → 0 < length bs → get_or bs 0 0 < 128 → char_at (chars text) 0 ≡ get_or bs 0 0
first_ascii text bs same u some l =
    one_ascii text u (subst (λ xs. get_or xs 0 0 < 128) same l) (subst (λ xs. 0 < length xs) same some) ∙ ap (λ xs. get_or xs 0 0) (sym same)

lead_beyond : (cs bs : List ℕ) → encode_utf8_all cs ≡ bs → 128 ≤ get_or bs 0 0 → 0 < length bs → 128 ≤ char_at cs 0
lead_beyond [] bs e l some = absurd (let none = ap length e in omega (arith, none))
lead_beyond (c ∷ cs) bs e l some =
    let no : c < 128 → ⊥ = λ h.
    (let first : get_or (encode_utf8 c ++ encode_utf8_all cs) 0 0 ≡ c = rw (encode_ascii c h) refl in
    let same : get_or bs 0 0 ≡ c = ap (λ xs. get_or xs 0 0) (sym e) ∙ first in
    omega (arith, same)) in
    omega (arith, no)

pub first_beyond : (text bs : List ℕ) → bs ≡ text → IsUtf8 text → 0 < length bs → 128 ≤ get_or bs 0 0 → 128 ≤ char_at (chars text) 0
first_beyond text bs same u some l = lead_beyond (chars text) bs (encodes-chars text u ∙ sym same) l some

pub ascii_behind : (bs : List ℕ) → IsUtf8 bs → 0 < length bs → get_or bs 0 0 < 128 → chars (drop 1 bs) ≡ drop 1 (chars bs)
ascii_behind [] u some l = absurd (omega arith)
ascii_behind (b ∷ bs) u some l = rw (ascii_cons b bs u l) refl

-- ---- a run

both_left : (x y : Bool) → (x && y) ≡ true → x ≡ true
both_left true y e = refl
both_left false y e = e

both_right : (x y : Bool) → (x && y) ≡ true → y ≡ true
both_right true y e = e
both_right false y e = absurd (let no : false ≡ true = e in cc)

right_fails : (x y : Bool) → (x && y) ≡ false → x ≡ true → y ≡ false
right_fails true y e h = e
right_fails false y e h = absurd (let no : false ≡ true = h in cc)

-- behind the bytes of ASCII at the front that pass there may be characters that pass, but none of ASCII
pub record AsciiRun (p : ℕ → Bool) (bs : List ℕ) (n : ℕ) : Type 0 where
  pub boundary : IsCharBoundary bs n
  pub on : drop (prefix_len p (chars (drop n bs))) (chars (drop n bs)) ≡ drop (prefix_len p (chars bs)) (chars bs)
  pub stops : char_at (chars (drop n bs)) 0 < 128 → chars (drop n bs) ≡ drop (prefix_len p (chars bs)) (chars bs)

pub ascii_run : (p : ℕ → Bool) (bs : List ℕ) → IsUtf8 bs → AsciiRun p bs (prefix_len (ascii_part p) bs)
ascii_run p [] u = record { boundary = IsCharBoundary-start [] u; on = refl; stops = λ l. rw chars-nil refl }
ascii_run p (b ∷ bs) u = by_first (ascii_part p b) refl (λ v. ascii_run p bs v)
  where
    by_first : (t : Bool) → ascii_part p b ≡ t → (IsUtf8 bs → AsciiRun p bs (prefix_len (ascii_part p) bs)) → AsciiRun p (b ∷ bs) (prefix_len (ascii_part p) (b ∷ bs))
    by_first true e again =
        let n : ℕ = prefix_len (ascii_part p) bs in
        let is_low : nat_lt b 128 ≡ true = both_left (nat_lt b 128) (p b) e in
        let low : b < 128 = grind (arith, nat_tests, is_low) in
        let passes : p b ≡ true = both_right (nat_lt b 128) (p b) e in
        let r = again (ascii_rest b bs u low) in
        let size : prefix_len (ascii_part p) (b ∷ bs) ≡ 1 + n = rw e refl in
        let left : drop (1 + n) (b ∷ bs) ≡ drop n bs = rw one-add refl in
        let same : drop (prefix_len p (chars (b ∷ bs))) (chars (b ∷ bs)) ≡ drop (prefix_len p (chars bs)) (chars bs) =
        rw (ascii_cons b bs u low, passes, one-add) refl in
        let made : AsciiRun p (b ∷ bs) (1 + n) = record {
          boundary = IsCharBoundary-from_rest (b ∷ bs) 1 n (omega arith) r.boundary;
          on = ap (λ xs. drop (prefix_len p (chars xs)) (chars xs)) left ∙ r.on ∙ sym same;
          stops = λ l. ap chars left ∙ r.stops (subst (λ xs. char_at (chars xs) 0 < 128) left l) ∙ sym same;
        } in
        subst (AsciiRun p (b ∷ bs)) (sym size) made
    by_first false e again =
        let size : prefix_len (ascii_part p) (b ∷ bs) ≡ 0 = rw e refl in
        let made : AsciiRun p (b ∷ bs) 0 = record {
          boundary = IsCharBoundary-start (b ∷ bs) u;
          on = refl;
          stops = λ l. stays l;
        } in
        subst (AsciiRun p (b ∷ bs)) (sym size) made
      where
        stays : char_at (chars (b ∷ bs)) 0 < 128 → chars (b ∷ bs) ≡ drop (prefix_len p (chars (b ∷ bs))) (chars (b ∷ bs))
        stays first =
            let no : 128 ≤ b → ⊥ = λ h. (let high = lead_beyond (chars (b ∷ bs)) (b ∷ bs) (encodes-chars (b ∷ bs) u) h (omega arith) in omega (arith, high, first)) in
            let l : b < 128 = omega (arith, no) in
            let is_low : nat_lt b 128 ≡ true = grind (arith, nat_tests) in
            let fails : p b ≡ false = right_fails (nat_lt b 128) (p b) e is_low in
            rw (ascii_cons b bs u l, fails) refl

-- the same of what follows the run
pub run_stopped : (p : ℕ → Bool) (text rest : List ℕ) (n : ℕ) → IsUtf8 text → n ≡ prefix_len (ascii_part p) text → rest ≡ drop n text →
    char_at (chars rest) 0 < 128 → chars rest ≡ drop (prefix_len p (chars text)) (chars text)
run_stopped p text rest n u is_n is_rest l =
    let same : rest ≡ drop (prefix_len (ascii_part p) text) text = is_rest ∙ ap (λ k. drop k text) is_n in
    ap chars same ∙ (ascii_run p text u).stops (subst (λ xs. char_at (chars xs) 0 < 128) same l)

pub run_left : (p : ℕ → Bool) (text rest : List ℕ) (n : ℕ) → IsUtf8 text → n ≡ prefix_len (ascii_part p) text → rest ≡ drop n text →
    drop (prefix_len p (chars rest)) (chars rest) ≡ drop (prefix_len p (chars text)) (chars text)
run_left p text rest n u is_n is_rest =
    let same : rest ≡ drop (prefix_len (ascii_part p) text) text = is_rest ∙ ap (λ k. drop k text) is_n in
    ap (λ xs. drop (prefix_len p (chars xs)) (chars xs)) same ∙ (ascii_run p text u).on
