-- A search for a byte finds the first such character.
use Rattle.std.proofs.Common.{◌≡◌, ℕ, zero, suc, ◌+◌, ◌-◌, ◌≤◌, ◌<◌, ◌++◌, Bool, true, false, not, Some, None, List, [], ◌∷◌, length, drop, get_or, refl, sym, ◌∙◌, ap, subst, arith, one-add, chars, encode_utf8, encode_utf8_all, IsUtf8, if◌then◌else◌, length-append}
use Rattle.std.specs.List.{position_or_len}
use Rattle.std.proofs.lemmas.Bool.Decides.{nat_tests}
use Rattle.memchr.specs.Find.{IsFirstByte, is_byte, is_byte2}
use Rattle.std.proofs.lemmas.Str.{inside_one, encode_ascii, encodes-chars, chars_from_encodes, chars-nil, IsUtf8-drop, IsCharBoundary-before_ascii}
use Rattle.std.proofs.lemmas.List.{get_or-append-add, drop_at, drop-drop, drop_all}

module _ (p : ℕ → Bool) (ascii : (x : ℕ) → p x ≡ true → x < 128) where
  -- a character that passes is one byte, so the first byte that passes is that
  at_once : (c : ℕ) (bs : List ℕ) (i : ℕ) → p c ≡ true → ((k : ℕ) → k < i → p (get_or (encode_utf8 c ++ bs) k 0) ≡ false) → i ≡ 0
  at_once c bs zero h before = refl
  at_once c bs (suc i) h before =
      let b = before 0 (omega arith) in
      let no = rw (encode_ascii c (ascii c h)) at b in
      (cc)

  -- no byte of a character that fails passes
  not_inside : (c : ℕ) (bs : List ℕ) (i : ℕ) → p c ≡ false → p (get_or (encode_utf8 c ++ bs) i 0) ≡ true → length (encode_utf8 c) ≤ i
  not_inside c bs i h here =
      let no : i < length (encode_utf8 c) → ⊥ = λ l.
      (let same = inside_one c bs (encode_utf8 c ++ bs) i refl l (ascii _ here) in
      let t : p c ≡ true = ap p same ∙ here in cc) in
      omega (arith, no)

  step : (c : ℕ) (cs : List ℕ) (i : ℕ) (b : Bool) → p c ≡ b → ((k : ℕ) → k < i → p (get_or (encode_utf8 c ++ encode_utf8_all cs) k 0) ≡ false) → p (get_or (encode_utf8 c ++ encode_utf8_all cs) i 0) ≡ true → (length (encode_utf8 c) ≤ i → drop (i - length (encode_utf8 c)) (encode_utf8_all cs) ≡ encode_utf8_all (drop (position_or_len p cs) cs)) → drop i (encode_utf8 c ++ encode_utf8_all cs) ≡ encode_utf8_all (drop (if not b then 1 + position_or_len p cs else 0) (c ∷ cs))
  step c cs i true h before here again = rw (at_once c (encode_utf8_all cs) i h before)
  step c cs i false h before here again =
      let past = not_inside c (encode_utf8_all cs) i h here in
      rw (one-add, ← again past) (behind (encode_utf8 c) (encode_utf8_all cs) i past)
    where
      behind : (xs ys : List ℕ) (i : ℕ) → length xs ≤ i → drop i (xs ++ ys) ≡ drop (i - length xs) ys
      behind xs ys i l =
          let e : i ≡ length xs + (i - length xs) = omega arith in
          ap (λ k. drop k (xs ++ ys)) e ∙ sym (drop-drop (i - length xs) (length xs) (xs ++ ys)) ∙ ap (drop (i - length xs)) (drop_at xs ys (length xs) refl)

  -- the first byte that passes begins the first character that passes
  pub first_byte : (cs : List ℕ) (i : ℕ) → i < length (encode_utf8_all cs) → ((k : ℕ) → k < i → p (get_or (encode_utf8_all cs) k 0) ≡ false) → p (get_or (encode_utf8_all cs) i 0) ≡ true → drop i (encode_utf8_all cs) ≡ encode_utf8_all (drop (position_or_len p cs) cs)
  first_byte [] i l before here = absurd (omega arith)
  first_byte (c ∷ cs) i l before here =
      step c cs i (p c) refl before here
      (λ past. first_byte cs (i - length (encode_utf8 c)) (omega (arith, length-append (encode_utf8 c) (encode_utf8_all cs)))
      (λ k h. rw (← get_or-append-add (encode_utf8 c) (encode_utf8_all cs) k 0) (before (length (encode_utf8 c) + k) (omega arith)))
      (let e : length (encode_utf8 c) + (i - length (encode_utf8 c)) ≡ i = omega arith in
      rw (← get_or-append-add (encode_utf8 c) (encode_utf8_all cs) (i - length (encode_utf8 c)) 0, e) here))

  none_step : (c : ℕ) (cs : List ℕ) (b : Bool) → p c ≡ b → ((k : ℕ) → k < length (encode_utf8 c ++ encode_utf8_all cs) → p (get_or (encode_utf8 c ++ encode_utf8_all cs) k 0) ≡ false) → drop (position_or_len p cs) cs ≡ [] → drop (if not b then 1 + position_or_len p cs else 0) (c ∷ cs) ≡ []
  none_step c cs true h before again =
      let b = before 0 (rw (encode_ascii c (ascii c h)) (omega arith)) in
      let no = rw (encode_ascii c (ascii c h)) at b in
      (cc)
  none_step c cs false h before again = rw one-add again

  none_found : (cs : List ℕ) → ((k : ℕ) → k < length (encode_utf8_all cs) → p (get_or (encode_utf8_all cs) k 0) ≡ false) → drop (position_or_len p cs) cs ≡ []
  none_found [] before = refl
  none_found (c ∷ cs) before =
      none_step c cs (p c) refl before
      (none_found cs (λ k h. rw (← get_or-append-add (encode_utf8 c) (encode_utf8_all cs) k 0) (before (length (encode_utf8 c) + k) (omega (arith, length-append (encode_utf8 c) (encode_utf8_all cs))))))

  -- where the search finds none, no character passes
  pub from_no_byte : (bs : List ℕ) → IsUtf8 bs → ((k : ℕ) → k < length bs → p (get_or bs k 0) ≡ false) → [] ≡ drop (position_or_len p (chars bs)) (chars bs)
  from_no_byte bs u before =
      let P : List ℕ → Type 0 = λ xs. (k : ℕ) → k < length xs → p (get_or xs k 0) ≡ false in
      sym (none_found (chars bs) (subst P (sym (encodes-chars bs u)) before))

  -- what follows the place that a search for a byte has found, as characters
  pub from_first_byte : (bs : List ℕ) (i : ℕ) → IsUtf8 bs → i < length bs → ((k : ℕ) → k < i → p (get_or bs k 0) ≡ false) → p (get_or bs i 0) ≡ true → chars (drop i bs) ≡ drop (position_or_len p (chars bs)) (chars bs)
  from_first_byte bs i u l before here =
      let e = encodes-chars bs u in
      let P : List ℕ → Type 0 = λ xs. i < length xs → ((k : ℕ) → k < i → p (get_or xs k 0) ≡ false) → p (get_or xs i 0) ≡ true → drop i xs ≡ encode_utf8_all (drop (position_or_len p (chars bs)) (chars bs)) in
      let d = subst P e (first_byte (chars bs) i) l before here in
      sym (chars_from_encodes _ (drop i bs) (IsUtf8-drop bs i u (IsCharBoundary-before_ascii bs i l (ascii _ here))) (sym d))

fails : (b : Bool) → (b ≡ true → ⊥) → b ≡ false
fails true never = absurd (never refl)
fails false never = refl

-- the text from the place that a search has found, and its end where the search has found none
pub from_found : (p : ℕ → Bool) (text : List ℕ) (i : ℕ) → ((x : ℕ) → p x ≡ true → x < 128) → IsUtf8 text → IsFirstByte p text (Some i) →
    chars (drop i text) ≡ drop (position_or_len p (chars text)) (chars text)
from_found p text i ascii u found =
    from_first_byte p ascii text i u found.0.high (λ k h. fails (p (get_or text k 0)) (found.0.before k (omega arith) h)) found.1

pub from_none : (p : ℕ → Bool) (text : List ℕ) → ((x : ℕ) → p x ≡ true → x < 128) → IsUtf8 text → IsFirstByte p text None →
    chars (drop (length text) text) ≡ drop (position_or_len p (chars text)) (chars text)
from_none p text ascii u none =
    let nothing : chars (drop (length text) text) ≡ [] = rw (drop_all (length text) text (omega arith), chars-nil) in
    nothing ∙ from_no_byte p ascii text u (λ k h. fails (p (get_or text k 0)) (none k (omega arith) h))

-- the bytes that are searched for are characters of ASCII
pub feed_is_ascii : (x : ℕ) → is_byte 10 x ≡ true → x < 128
feed_is_ascii x h = grind (arith, nat_tests)

pub quote_is_ascii : (x : ℕ) → is_byte 34 x ≡ true → x < 128
quote_is_ascii x h = grind (arith, nat_tests)

pub escape_is_ascii : (x : ℕ) → is_byte2 34 92 x ≡ true → x < 128
escape_is_ascii x h = grind (arith, nat_tests)
