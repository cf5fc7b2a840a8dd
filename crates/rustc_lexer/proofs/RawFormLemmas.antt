-- The body of an unterminated raw string, one `"` further.
use Rattle.std.proofs.Common.{◌≡◌, ℕ, ◌+◌, ◌-◌, ◌<◌, ◌≤◌, ◌==◌, max, nat_le, Bool, true, false, Option, Some, None, Ok, Err, List, [], ◌∷◌, length, take, drop, chars, IsUtf8, refl, sym, ◌∙◌, ap, subst, arith}
use Rattle.std.specs.List.{prefix_len, position_or_len}
use Rattle.std.proofs.lemmas.Bool.Decides.{nat_tests}
use Rattle.std.proofs.lemmas.List.{length-take-le, drop-drop, get_or_past}
use Rattle.std.proofs.lemmas.List.Sums.{prefix_len-le-length}
use Rattle.std.proofs.lemmas.Str.{length-le-encodes}
use Rattle.memchr.specs.Find.{is_byte}
use Rattle.rustc_lexer.specs.Character.{char_at, is, utf8_len}
use Rattle.rustc_lexer.specs.Literals.{hashes, raw_body}
use Rattle.rustc_lexer.specs.RawForms.{most_hashes, up_to_quote, possible_end, body_validity}
use Rattle.rustc_lexer.specs.declared.raw_str.RawStrError.TheVariants.{NoTerminator}
use Rattle.rustc_lexer.specs.Scanned.{IsRead}
use Rattle.rustc_lexer.proofs.BodyLemmas.{found_passes}
use Rattle.rustc_lexer.proofs.CutLemmas.{length_encodes}
use Rattle.rustc_lexer.proofs.TokenLemmas.{bytes_passed, chars_at_most, length_text}

-- ---- lengths

-- so many characters take at least so many bytes
pub bytes_behind : (bs ds : List ℕ) (n : ℕ) → IsUtf8 bs → IsUtf8 ds → chars ds ≡ drop n (chars bs) → n ≤ length (chars bs) →
    n + length ds ≤ length bs
bytes_behind bs ds n u v e h =
    let front : List ℕ = take n (chars bs) in
    omega (arith, bytes_passed bs ds n u v e, length-le-encodes front, length_encodes front, length-take-le n (chars bs) h)

-- ---- how far a search has come

-- how many bytes stand up to and with the first `"` that k hashes follow
abbrev bytes_to : ℕ → List ℕ → ℕ
bytes_to k cs = utf8_len (up_to_quote k cs)

-- nothing that is left out from `cs` to `ds` is a `"`
record Passes (cs ds : List ℕ) : Type 0 where
  most : most_hashes ds ≡ most_hashes cs
  bytes : (k : ℕ) → bytes_to k cs + utf8_len ds ≡ utf8_len cs + bytes_to k ds

nothing_passed : (cs ds : List ℕ) → ds ≡ cs → Passes cs ds
nothing_passed cs ds e = rw e (record { most = refl; bytes = λ k. omega arith })

one_passed : (c : ℕ) (cs ds : List ℕ) → is "\"" c ≡ false → Passes cs ds → Passes (c ∷ cs) ds
one_passed c cs ds h p =
    let most : most_hashes (c ∷ cs) ≡ most_hashes cs = rw h in
    let bytes : (k : ℕ) → bytes_to k (c ∷ cs) + utf8_len ds ≡ utf8_len (c ∷ cs) + bytes_to k ds = λ k. rw h (omega (arith, p.bytes k)) in
    record { most = p.most ∙ sym most; bytes = bytes }

passes_to_quote : (cs : List ℕ) → Passes cs (drop (position_or_len (is_byte 34) cs) cs)
passes_to_quote [] = nothing_passed [] [] refl
passes_to_quote (c ∷ cs) = by_test (is "\"" c) refl (passes_to_quote cs)
  where
    by_test : (a : Bool) → is "\"" c ≡ a → Passes cs (drop (position_or_len (is_byte 34) cs) cs) →
        Passes (c ∷ cs) (drop (position_or_len (is_byte 34) (c ∷ cs)) (c ∷ cs))
    by_test true e again = nothing_passed (c ∷ cs) _ (rw e)
    by_test false e again =
        rw e (subst (Passes (c ∷ cs)) (drop-drop (position_or_len (is_byte 34) cs) 1 (c ∷ cs)) (one_passed c cs (drop (position_or_len (is_byte 34) cs) cs) e again))

-- of the body `bs`, `cs` is left, and `found` hashes are the most so far
pub record HasFound (start : ℕ) (bs cs : List ℕ) (found : ℕ) (offset : Option ℕ) : Type 0 where
  pub most : most_hashes bs ≡ max found (most_hashes cs)
  pub later : (k : ℕ) → found < k → bytes_to k bs + utf8_len cs ≡ utf8_len bs + bytes_to k cs
  pub possible : offset ≡ possible_end start found bs

pub nothing_found : (start : ℕ) (bs : List ℕ) → HasFound start bs bs 0 None
nothing_found start bs = record { most = omega arith; later = λ k h. omega arith; possible = refl }

found_on : (start : ℕ) (bs cs ds : List ℕ) (found : ℕ) (possible : Option ℕ) → Passes cs ds → HasFound start bs cs found possible →
    HasFound start bs ds found possible
found_on start bs cs ds found possible p f =
    record {
      most = f.most ∙ ap (max found) (sym p.most);
      later = λ k h. omega (arith, f.later k h, p.bytes k);
      possible = f.possible;
    }

bytes_to_this : (es : List ℕ) → bytes_to (prefix_len (is "#") es) (34 ∷ es) ≡ 1
bytes_to_this es =
    let h : ℕ = prefix_len (is "#") es in
    let same : (h == h) ≡ true = grind (arith, nat_tests) in
    rw same

bytes_to_other : (k : ℕ) (es : List ℕ) → (prefix_len (is "#") es ≡ k → ⊥) → bytes_to k (34 ∷ es) ≡ 1 + bytes_to k es
bytes_to_other k es apart =
    let other : (prefix_len (is "#") es == k) ≡ false = grind (arith, nat_tests) in
    rw other

-- the next `"` is followed by more hashes than any before
more_at_quote : (start : ℕ) (bs es : List ℕ) (found : ℕ) (possible : Option ℕ) → found < prefix_len (is "#") es →
    HasFound start bs (34 ∷ es) found possible →
    HasFound start bs es (prefix_len (is "#") es) (Some (start + (utf8_len bs - utf8_len es)))
more_at_quote start bs es found possible more f =
    let h : ℕ = prefix_len (is "#") es in
    let some : (h == 0) ≡ false = grind (arith, nat_tests) in
    let bytes : utf8_len bs - utf8_len es ≡ bytes_to h bs = omega (arith, f.later h more, bytes_to_this es) in
    record {
      most = omega (arith, f.most);
      later = λ k l. (let other = bytes_to_other k es (λ e. omega (arith, e)) in omega (arith, f.later k (omega arith), other));
      possible = rw (some, bytes);
    }

no_more_at_quote : (start : ℕ) (bs es : List ℕ) (found : ℕ) (possible : Option ℕ) → (found < prefix_len (is "#") es → ⊥) →
    HasFound start bs (34 ∷ es) found possible → HasFound start bs es found possible
no_more_at_quote start bs es found possible few f =
    record {
      most = omega (arith, f.most, few);
      later = λ k l. (let other = bytes_to_other k es (λ e. omega (arith, e, few)) in omega (arith, f.later k l, other));
      possible = f.possible;
    }

-- ---- the same of texts

module _ (rest mark : List ℕ) (found_mark : chars mark ≡ drop (position_or_len (is_byte 34) (chars rest)) (chars rest)) where
  passes_to_mark : Passes (chars rest) (chars mark)
  passes_to_mark = subst (Passes (chars rest)) (sym found_mark) (passes_to_quote (chars rest))

  at_quote : (after : List ℕ) (c : ℕ) → chars mark ≡ c ∷ chars after → chars mark ≡ 34 ∷ chars after
  at_quote after c here =
      let passes = found_passes (is_byte 34) (chars rest) c (chars after) (sym found_mark ∙ here) in
      let quote : c ≡ 34 = grind (arith, nat_tests) in
      here ∙ ap (λ d. d ∷ chars after) quote

  pub after_shorter : (after : List ℕ) (c : ℕ) → IsUtf8 rest → IsUtf8 mark → IsUtf8 after → chars mark ≡ c ∷ chars after → length after ≤ length rest
  after_shorter after c u v w here =
      omega (arith, bytes_passed rest mark _ u v found_mark, bytes_passed mark after 1 v w (sym (ap (drop 1) here)))

  pub finds_more : (start : ℕ) (body after : List ℕ) (c found h : ℕ) (possible : Option ℕ) → chars mark ≡ c ∷ chars after →
      h ≡ prefix_len (is "#") (chars after) → found < h → IsUtf8 body → IsUtf8 after → HasFound start (chars body) (chars rest) found possible →
      HasFound start (chars body) (chars after) h (Some (start + (length body - length after)))
  finds_more start body after c found h possible here is_h more u v f =
      let on = found_on start (chars body) (chars rest) (chars mark) found possible passes_to_mark f in
      let at = subst (λ cs. HasFound start (chars body) cs found possible) (at_quote after c here) on in
      let made = more_at_quote start (chars body) (chars after) found possible (omega (arith, is_h, more)) at in
      rw (is_h, length_text body u, length_text after v) made

  pub finds_no_more : (start : ℕ) (body after : List ℕ) (c found h : ℕ) (possible : Option ℕ) → chars mark ≡ c ∷ chars after →
      h ≡ prefix_len (is "#") (chars after) → (found < h → ⊥) → HasFound start (chars body) (chars rest) found possible →
      HasFound start (chars body) (chars after) found possible
  finds_no_more start body after c found h possible here is_h few f =
      let on = found_on start (chars body) (chars rest) (chars mark) found possible passes_to_mark f in
      let at = subst (λ cs. HasFound start (chars body) cs found possible) (at_quote after c here) on in
      no_more_at_quote start (chars body) (chars after) found possible (λ l. few (omega (arith, is_h, l))) at

  pub found_all : (start : ℕ) (body : List ℕ) (found : ℕ) (possible : Option ℕ) → chars mark ≡ [] →
      HasFound start (chars body) (chars rest) found possible → most_hashes (chars body) ≡ found
  found_all start body found possible none f =
      let zero_left : most_hashes (chars mark) ≡ 0 = rw none in
      omega (arith, f.most, passes_to_mark.most, zero_left)

  pub is_terminated : (n : ℕ) (after : List ℕ) (c h : ℕ) → chars mark ≡ c ∷ chars after → h ≡ prefix_len (is "#") (chars after) → n ≤ h →
      (raw_body n (chars mark)).value ≡ true
  is_terminated n after c h here is_h enough =
      let fits : nat_le n (prefix_len (is "#") (chars after)) ≡ true = grind (arith, nat_tests) in
      rw (at_quote after c here, fits)

pub too_few : (n h : ℕ) (cs : List ℕ) → h ≡ prefix_len (is "#") cs → h < n → nat_le n (prefix_len (is "#") cs) ≡ false
too_few n h cs is_h few = grind (arith, nat_tests)

pub with_end : (start n : ℕ) (bs : List ℕ) → (raw_body n bs).value ≡ true → Ok tt ≡ body_validity start n bs
with_end start n bs h = rw h

pub without_end : (start n : ℕ) (bs : List ℕ) (found : ℕ) (offset : Option ℕ) → (raw_body n bs).value ≡ false → most_hashes bs ≡ found →
    offset ≡ possible_end start found bs → Err (NoTerminator n found offset) ≡ body_validity start n bs
without_end start n bs found offset h most possible = rw (h, most, possible)

-- hashes at the front are no more than the text's bytes
pub hashes_fit : (text : List ℕ) (n : ℕ) → IsUtf8 text → n ≡ prefix_len (is "#") (chars text) → n ≤ length text
hashes_fit text n u e = omega (arith, e, prefix_len-le-length (is "#") (chars text), chars_at_most text u)

-- ---- the parts of a raw string

-- a character that is not U+0000 stands inside the text
inside : (cs : List ℕ) (i : ℕ) → (char_at cs i ≡ 0 → ⊥) → i < length cs
inside cs i some =
    let within : length cs ≤ i → ⊥ = λ past. some (get_or_past cs i 0 past) in
    omega (arith, within)

-- a character at the place before p
prefix_inside : (cs : List ℕ) (p : ℕ) → 1 ≤ p → is "r" (char_at cs (p - 1)) ≡ true → p ≤ length cs
prefix_inside cs p positive last =
    let some : char_at cs (p - 1) ≡ 0 → ⊥ = λ e. grind (arith, nat_tests) in
    omega (arith, positive, inside cs (p - 1) some)

pub form_fits : (input form : List ℕ) (p : ℕ) → IsUtf8 input → IsUtf8 form → 1 ≤ p → is "r" (char_at (chars input) (p - 1)) ≡ true →
    chars form ≡ drop p (chars input) → p + length form ≤ length input
form_fits input form p u v positive last e = bytes_behind input form p u v e (prefix_inside (chars input) p positive last)

pub body_fits : (form opening body : List ℕ) (n : ℕ) → IsUtf8 form → IsUtf8 body → IsRead (hashes (chars form)) form n opening →
    char_at (chars opening) 0 ≡ 34 → chars body ≡ drop 1 (chars opening) → n + 1 + length body ≤ length form
body_fits form opening body n u v r quote e =
    let k : ℕ = prefix_len (is "#") (chars form) in
    let counted = bytes_behind form opening k u r.utf8 r.rest (prefix_len-le-length (is "#") (chars form)) in
    let some : char_at (chars opening) 0 ≡ 0 → ⊥ = λ z. omega (arith, z, quote) in
    let one : 1 ≤ length (chars opening) = omega (arith, inside (chars opening) 0 some) in
    omega (arith, r.value, counted, bytes_behind opening body 1 r.utf8 v e one)
