-- What is clear of an edit, by the run of hashes that ends one character before it.
use Rattle.std.proofs.Common.{◌≡◌, ℕ, zero, suc, ◌+◌, ◌-◌, ◌≤◌, ◌<◌, ◌&&◌, Bool, true, false, nat_le, List, [], ◌∷◌, ◌++◌, length, take, drop, get_or, refl, sym, ◌∙◌, ap, subst, arith, chars, IsUtf8, IsCharBoundary, if◌then◌else◌, length-append}
use Rattle.std.proofs.Math.Seq.{take-add}
use Rattle.std.proofs.lemmas.Bool.Decides.{nat_tests}
use Rattle.std.proofs.lemmas.List.{drop-drop, get_or-drop, get_or-take, length-drop, length-take-le, nil_from_length, take-append-drop}
use Rattle.std.proofs.lemmas.List.Sums.{prefix_len-le-length, prefix_len_passes}
use Rattle.std.proofs.lemmas.Str.{chars-append, chars-nil, len_utf8_bounds, IsCharBoundary-from_rest, IsCharBoundary-start, IsUtf8-drop, IsUtf8-take}
use Rattle.std.specs.List.{prefix_len}
use Rattle.rustc_lexer.specs.Character.{char_at, is, utf8_len}
use Rattle.rustc_lexer.specs.Edit.{is_clear_of}
use Rattle.rustc_lexer.specs.Lexing.{ends_in_hash, run_on}
use Rattle.rustc_lexer.specs.Relexing.{IsLastChar, IsRunStart}
use Rattle.rustc_lexer.proofs.AheadLemmas.{run_append}
use Rattle.rustc_lexer.proofs.CutLemmas.{behind_chars}
use Rattle.rustc_lexer.proofs.HashByteLemmas.{ends_in_bytes, run_in_bytes}
use Rattle.rustc_lexer.proofs.ReadLemmas.{bytes_of_hashes}
use Rattle.rustc_lexer.proofs.RelexLemmas.{not_clear, utf8_between}
use Rattle.rustc_lexer.proofs.TokenLemmas.{chars_at_most, length_text, none_left}

-- ---- one character before

between_long : (text : List ℕ) (at stop : ℕ) → at ≤ stop → stop ≤ length text → length (take (stop - at) (drop at text)) ≡ stop - at
between_long text at stop l k = length-take-le (stop - at) (drop at text) (omega (arith, length-drop at text, k))

-- what lies between two offsets, and what lies between the second and a third
between_parts : (text : List ℕ) (at mid stop : ℕ) → IsUtf8 text → IsCharBoundary text at → IsCharBoundary text mid → at ≤ mid → mid ≤ stop →
    chars (take (stop - at) (drop at text)) ≡ chars (take (mid - at) (drop at text)) ++ chars (take (stop - mid) (drop mid text))
between_parts text at mid stop u a m l k =
    let all : stop - at ≡ mid - at + (stop - mid) = omega (arith, l, k) in
    let there : at + (mid - at) ≡ mid = omega (arith, l) in
    ap (λ n. chars (take n (drop at text))) all
    ∙ ap chars (take-add (mid - at) (stop - mid) (drop at text))
    ∙ ap (λ bs. chars (take (mid - at) (drop at text) ++ take (stop - mid) bs)) (drop-drop (mid - at) at text ∙ ap (λ n. drop n text) there)
    ∙ chars-append (take (mid - at) (drop at text)) (take (stop - mid) (drop mid text)) (utf8_between text at mid u l a m)

-- between neighbouring boundaries lies one character
pub last_char : (text : List ℕ) (at start : ℕ) → IsUtf8 text → IsCharBoundary text at → IsCharBoundary text start → at < start →
    ((i : ℕ) → at < i → i < start → IsCharBoundary text i → ⊥) → IsLastChar text start at
last_char text at start u a b l none = record { boundary = a; before = omega (arith, l); one = λ k. by_chars (chars (take (start - at) (drop at text))) refl }
  where
    by_chars : (cs : List ℕ) → chars (take (start - at) (drop at text)) ≡ cs → length cs ≡ 1
    by_chars [] e =
        let size = between_long text at start (omega (arith, l)) b.0 in
        let zero_bytes = none_left (take (start - at) (drop at text)) (utf8_between text at start u (omega (arith, l)) a b) e in
        absurd (omega (arith, size, zero_bytes, l))
    by_chars (c ∷ []) e = refl
    by_chars (c ∷ d ∷ cs) e =
        let rest : List ℕ = drop at text in
        let word : List ℕ = take (start - at) rest in
        let size = between_long text at start (omega (arith, l)) b.0 in
        let bytes = length_text word (utf8_between text at start u (omega (arith, l)) a b) ∙ ap utf8_len e in
        let whole : chars rest ≡ c ∷ d ∷ (cs ++ chars (drop (start - at) rest)) =
        ap chars (sym (take-append-drop (start - at) rest)) ∙ chars-append word (drop (start - at) rest) (utf8_between text at start u (omega (arith, l)) a b) ∙ ap (λ xs. xs ++ chars (drop (start - at) rest)) e in
        let first : utf8_len (take 1 (chars rest)) ≡ utf8_len (c ∷ []) = ap (λ xs. utf8_len (take 1 xs)) whole in
        let behind = behind_chars rest 1 (IsUtf8-drop text at u a) in
        let inside : IsCharBoundary rest (utf8_len (c ∷ [])) = subst (IsCharBoundary rest) first behind.boundary in
        absurd (none (at + utf8_len (c ∷ [])) (omega (arith, (len_utf8_bounds c).0)) (omega (arith, size, bytes, (len_utf8_bounds d).0, l))
        (IsCharBoundary-from_rest text at (utf8_len (c ∷ [])) a.0 inside))

-- the start of a text has no character before it
pub no_char : (text : List ℕ) (start : ℕ) → IsUtf8 text → ((i : ℕ) → 0 ≤ i → i < start → IsCharBoundary text i → ⊥) → IsLastChar text start 0
no_char text start u none =
    record { boundary = IsCharBoundary-start text u; before = omega arith; one = λ k. absurd (none 0 (omega arith) k (IsCharBoundary-start text u)) }

-- ---- a run, in bytes and in characters

-- a run of all bytes is one of all characters
full_run : (p : ℕ → Bool) (bs : List ℕ) → ((i : ℕ) → i < length bs → p (get_or bs i 0) ≡ true) → prefix_len p bs ≡ length bs
full_run p [] h = refl
full_run p (b ∷ bs) h =
    let first : p b ≡ true = h 0 (omega arith) in
    let rest = full_run p bs (λ i l. h (suc i) (omega (arith, l))) in
    rw (first, rest) (omega arith)

full_chars : (bs : List ℕ) → IsUtf8 bs → ((i : ℕ) → i < length bs → is "#" (get_or bs i 0) ≡ true) → prefix_len (is "#") (chars bs) ≡ length (chars bs)
full_chars bs u h = omega (arith, run_in_bytes bs u, full_run (is "#") bs h, chars_at_most bs u, prefix_len-le-length (is "#") (chars bs))

take_all : (n : ℕ) (cs : List ℕ) → n ≡ length cs → take n cs ≡ cs
take_all zero [] e = refl
take_all zero (c ∷ cs) e = absurd (omega (arith, e))
take_all (suc n) [] e = absurd (omega (arith, e))
take_all (suc n) (c ∷ cs) e = ap (λ xs. c ∷ xs) (take_all n cs (omega (arith, e)))

-- and the other way round
full_bytes : (bs : List ℕ) → IsUtf8 bs → prefix_len (is "#") (chars bs) ≡ length (chars bs) → prefix_len (is "#") bs ≡ length bs
full_bytes bs u h =
    let same = ap utf8_len (take_all (prefix_len (is "#") (chars bs)) (chars bs) h) in
    omega (arith, run_in_bytes bs u, bytes_of_hashes (chars bs), same, length_text bs u)

-- a run of all characters goes on in what follows
run_on_append : (p : ℕ → Bool) (cs ds : List ℕ) → prefix_len p cs ≡ length cs → length cs ≤ prefix_len p (cs ++ ds)
run_on_append p [] ds h = omega arith
run_on_append p (c ∷ cs) ds h = by_test (p c) h (λ k. run_on_append p cs ds k)
  where
    by_test : (u : Bool) → (if u then 1 + prefix_len p cs else 0) ≡ suc (length cs) → (prefix_len p cs ≡ length cs → length cs ≤ prefix_len p (cs ++ ds)) →
        suc (length cs) ≤ (if u then 1 + prefix_len p (cs ++ ds) else 0)
    by_test true h again = (let rest = again (omega (arith, h)) in omega (arith, rest))
    by_test false h again = absurd (omega (arith, h))

-- the byte before an offset
ends_at : (text : List ℕ) (at : ℕ) → suc at ≤ length text → ends_in_hash (take (suc at) text) ≡ is "#" (get_or text at 0)
ends_at text at l =
    let size : length (take (suc at) text) ≡ suc at = length-take-le (suc at) text l in
    let last : length (take (suc at) text) - 1 ≡ at = omega (arith, size) in
    ap (λ i. is "#" (char_at (take (suc at) text) i)) last ∙ ap (is "#") (get_or-take (suc at) text at 0 (omega arith))

-- ---- the run that ends one character before `start`

module _ (text : List ℕ) (start last run : ℕ) (u : IsUtf8 text) (b : IsCharBoundary text start) (one : IsLastChar text start last) (l : run ≤ last)
    (hashed : (i : ℕ) → run ≤ i → i < last → is "#" (get_or text i 0) ≡ true) (stops : 0 < run → is "#" (get_or text (run - 1) 0) ≡ false) where
  -- the bytes from `at` to `last`
  abbrev before_last : ℕ → List ℕ
  before_last at = take (last - at) (drop at text)

  inside : (at i : ℕ) → i < last - at → get_or (before_last at) i 0 ≡ get_or text (at + i) 0
  inside at i k = get_or-take (last - at) (drop at text) i 0 k ∙ get_or-drop at text i 0

  -- no run goes on from an offset that is not behind the start of the run
  run_ends : (at : ℕ) → IsCharBoundary text at → at ≤ run → at < last → ends_in_hash (chars (take at text)) ≡ true →
      prefix_len (is "#") (chars (before_last at)) < length (chars (before_last at))
  run_ends zero a k m e = absurd (let t : ends_in_hash (chars []) ≡ true = e in let none : ends_in_hash [] ≡ true = sym (ends_in_bytes [] (IsUtf8-take text 0 u a)) ∙ t in let f : false ≡ true = none in cc)
  run_ends (suc at) a k m e =
      let part : List ℕ = before_last (suc at) in
      let utf8 = utf8_between text (suc at) last u (omega (arith, m)) a one.boundary in
      let size = between_long text (suc at) last (omega (arith, m)) one.boundary.0 in
      let here : is "#" (get_or text at 0) ≡ true = sym (ends_at text at a.0) ∙ sym (ends_in_bytes (take (suc at) text) (IsUtf8-take text (suc at) u a)) ∙ e in
      let no_run : prefix_len (is "#") (chars part) ≡ length (chars part) → ⊥ = λ full.
      (let bytes = full_bytes part utf8 full in
      let hash_before : (i : ℕ) → at ≤ i → i < last → is "#" (get_or text i 0) ≡ true = λ i p q. before i (nat_le i at) refl here p q (λ j r.
      (let there : suc at + j ≡ suc (at + j) = omega arith in
      ap (is "#") (sym (inside (suc at) j r)) ∙ prefix_len_passes (is "#") part j 0 (omega (arith, bytes, size, r)))) in
      let yes = hash_before (run - 1) (omega (arith, k)) (omega (arith, k, l)) in
      let no = stops (omega (arith, k)) in
      let t : false ≡ true = sym no ∙ yes in cc) in
      omega (arith, prefix_len-le-length (is "#") (chars part), no_run)
    where
      before : (i : ℕ) (t : Bool) → nat_le i at ≡ t → is "#" (get_or text at 0) ≡ true → at ≤ i → i < last → ((j : ℕ) → j < last - suc at → is "#" (get_or text (suc at + j) 0) ≡ true) → is "#" (get_or text i 0) ≡ true
      before i true e here p q later =
          let low : i ≤ at = grind (arith, nat_tests) in
          let same : i ≡ at = omega (arith, low, p) in
          ap (λ k. is "#" (get_or text k 0)) same ∙ here
      before i false e here p q later =
          let high : at < i = grind (arith, nat_tests) in
          let same : i ≡ suc at + (i - suc at) = omega (arith, high) in
          ap (λ k. is "#" (get_or text k 0)) same ∙ later (i - suc at) (omega (arith, high, q))

  -- from an offset behind the start of the run it goes on up to `last`
  run_goes_on : (at : ℕ) → IsCharBoundary text at → run < at → at < last →
      (ends_in_hash (chars (take at text)) ≡ true) × (prefix_len (is "#") (chars (before_last at)) ≡ length (chars (before_last at)))
  run_goes_on zero a k m = absurd (omega (arith, k))
  run_goes_on (suc at) a k m =
      let part : List ℕ = before_last (suc at) in
      let utf8 = utf8_between text (suc at) last u (omega (arith, m)) a one.boundary in
      let size = between_long text (suc at) last (omega (arith, m)) one.boundary.0 in (
        ends_in_bytes (take (suc at) text) (IsUtf8-take text (suc at) u a) ∙ ends_at text at a.0 ∙ hashed at (omega (arith, k)) (omega (arith, m)),
        full_chars part utf8 (λ i q. ap (is "#") (inside (suc at) i (omega (arith, q, size))) ∙ hashed (suc at + i) (omega (arith, k)) (omega (arith, q, size))),
      )

  abbrev goes_on : Bool → List ℕ → ℕ
  goes_on e cs = if e then prefix_len (is "#") cs else 0

  -- at least two characters are between
  far : (at : ℕ) → IsCharBoundary text at → at < last → is_clear_of text start at ≡ nat_le at run
  far at a m = by_run (nat_le at run) refl
    where
      parts : chars (take (start - at) (drop at text)) ≡ chars (before_last at) ++ chars (take (start - last) (drop last text))
      parts = between_parts text at last start u a one.boundary (omega (arith, m)) one.before

      size : length (chars (take (start - at) (drop at text))) ≡ length (chars (before_last at)) + 1
      size = ap length parts ∙ length-append (chars (before_last at)) (chars (take (start - last) (drop last text))) ∙ ap (λ n. length (chars (before_last at)) + n) (one.one (omega (arith, m, one.before)))

      some : 1 ≤ length (chars (before_last at))
      some =
          let utf8 = utf8_between text at last u (omega (arith, m)) a one.boundary in
          let long = between_long text at last (omega (arith, m)) one.boundary.0 in
          let none : length (chars (before_last at)) ≡ 0 → ⊥ = λ e. (let bytes = none_left (before_last at) utf8 (nil_from_length (chars (before_last at)) e) in omega (arith, bytes, long, m)) in
          omega (arith, none)

      by_end : (e : Bool) → ends_in_hash (chars (take at text)) ≡ e → at ≤ run → goes_on e (chars (take (start - at) (drop at text))) + 2 ≤ length (chars (take (start - at) (drop at text)))
      by_end false e k = omega (arith, size, some)
      by_end true e k =
          let less = run_ends at a k m e in
          let same = ap (prefix_len (is "#")) parts ∙ run_append (is "#") (chars (before_last at)) (chars (take (start - last) (drop last text))) less in
          omega (arith, same, less, size)

      by_run : (v : Bool) → nat_le at run ≡ v → is_clear_of text start at ≡ v
      by_run true e =
          let k : at ≤ run = grind (arith, nat_tests) in
          let enough = by_end (ends_in_hash (chars (take at text))) refl k in
          grind (arith, nat_tests, enough)
      by_run false e =
          let k : run < at = grind (arith, nat_tests) in
          let on = run_goes_on at a k m in
          let more = run_on_append (is "#") (chars (before_last at)) (chars (take (start - last) (drop last text))) on.1 in
          let same = ap (prefix_len (is "#")) parts in
          let all = ap (λ t. goes_on t (chars (take (start - at) (drop at text)))) on.0 in
          let few : length (chars (take (start - at) (drop at text))) < run_on (chars (take at text)) (chars (take (start - at) (drop at text))) + 2 = omega (arith, all, same, more, size) in
          grind (arith, nat_tests, few)

  -- fewer than two are
  near : (at : ℕ) → length (chars (take (start - at) (drop at text))) < 2 → is_clear_of text start at ≡ false
  near at few = grind (arith, nat_tests, few)

  two_before : (at : ℕ) → IsCharBoundary text at → last ≤ at → at ≤ start → length (chars (take (start - at) (drop at text))) < 2
  two_before at a k m = by_start (nat_le 1 start) refl
    where
      by_start : (v : Bool) → nat_le 1 start ≡ v → length (chars (take (start - at) (drop at text))) < 2
      by_start true e =
          let some : 0 < start = grind (arith, nat_tests) in
          let parts = ap length (between_parts text last at start u one.boundary a k m) ∙ length-append (chars (take (at - last) (drop last text))) (chars (take (start - at) (drop at text))) in
          omega (arith, parts, one.one some)
      by_start false e =
          let none : start ≡ 0 = grind (arith, nat_tests) in
          let count : start - at ≡ 0 = omega (arith, none) in
          let empty = ap (λ n. length (chars (take n (drop at text)))) count ∙ ap length chars-nil in
          omega (arith, empty)

  pub run_start_is : IsRunStart text start run
  run_start_is = record { before = omega (arith, l, one.before); clear = λ at a. by_place at a (nat_le at start) (nat_le last at) refl refl }
    where
      both_no : (p q : Bool) → q ≡ false → (p && q) ≡ false
      both_no true q e = e
      both_no false q e = refl

      by_place : (at : ℕ) → IsCharBoundary text at → (v w : Bool) → nat_le at start ≡ v → nat_le last at ≡ w →
          is_clear_of text start at ≡ (nat_le at run && nat_le 2 (length (chars (take (start - at) (drop at text)))))
      by_place at a false w e f =
          let k : start < at = grind (arith, nat_tests) in
          let no : nat_le at run ≡ false = (let behind : run < at = omega (arith, k, l, one.before) in grind (arith, nat_tests, behind)) in
          not_clear text at start k ∙ sym (ap (λ t. t && nat_le 2 (length (chars (take (start - at) (drop at text))))) no)
      by_place at a true true e f =
          let few = two_before at a (grind (arith, nat_tests)) (grind (arith, nat_tests)) in
          let no : nat_le 2 (length (chars (take (start - at) (drop at text)))) ≡ false = grind (arith, nat_tests, few) in
          near at few ∙ sym (both_no (nat_le at run) _ no)
      by_place at a true false e f =
          let m : at < last = grind (arith, nat_tests) in
          let enough : 2 ≤ length (chars (take (start - at) (drop at text))) = long at a m in
          let yes : nat_le 2 (length (chars (take (start - at) (drop at text)))) ≡ true = grind (arith, nat_tests, enough) in
          far at a m ∙ sym (and_true (nat_le at run)) ∙ ap (λ t. nat_le at run && t) (sym yes)
        where
          and_true : (t : Bool) → (t && true) ≡ t
          and_true true = refl
          and_true false = refl

          long : (at : ℕ) → IsCharBoundary text at → at < last → 2 ≤ length (chars (take (start - at) (drop at text)))
          long at a m =
              let utf8 = utf8_between text at last u (omega (arith, m)) a one.boundary in
              let size = between_long text at last (omega (arith, m)) one.boundary.0 in
              let none : length (chars (take (last - at) (drop at text))) ≡ 0 → ⊥ =
              λ e. (let bytes = none_left (take (last - at) (drop at text)) utf8 (nil_from_length (chars (take (last - at) (drop at text))) e) in omega (arith, bytes, size, m)) in
              let parts = ap length (between_parts text at last start u a one.boundary (omega (arith, m)) one.before)
              ∙ length-append (chars (take (last - at) (drop at text))) (chars (take (start - last) (drop last text))) in
              omega (arith, parts, none, one.one (omega (arith, m, one.before)))
