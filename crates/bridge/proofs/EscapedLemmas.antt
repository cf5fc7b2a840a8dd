-- Escaped texts, by their bytes and by their characters.
use Rattle.std.proofs.Common.{◌≡◌, ℕ, ◌+◌, ◌-◌, ◌≤◌, List, [], ◌∷◌, ◌++◌, Bool, true, false, length, take, drop, get_or, refl, sym, ap, ◌∙◌, arith, length-append, if◌then◌else◌}
use Rattle.std.specs.List.{slice_range}
use Rattle.std.specs.Prelude.{◌*◌, ◌&&◌, ◌||◌, not, nat_eq, encode_utf8}
use Rattle.std.specs.Str.{IsUtf8, all_scalars, chars, encode_utf8_all}
use Rattle.std.proofs.lemmas.Bool.{and_parts}
use Rattle.std.proofs.lemmas.List.{append-nil, length-take-le, take-append-drop}
use Rattle.std.proofs.lemmas.List.Concat.{flat_map-append}
use Rattle.std.proofs.lemmas.Str.{chars_from_encodes, encode_ascii, inside_one}
use Rattle.memchr.specs.Find.{is_byte2}
use Rattle.rustc_lexer.specs.Literals.{stands_for_itself, with_escapes}
use Rattle.bridge.specs.TokenSteps.{escaped}
use Rattle.bridge.proofs.EscapeLemmas.{escape_is_ascii, escaped_none, one_escaped}
use Rattle.rustc_lexer.proofs.TestLemmas.{no}

-- ---- one character

stands : (c : ℕ) → stands_for_itself c ≡ not (is_byte2 92 34 c)
stands c = by_tests (nat_eq c 34) (nat_eq c 92)
  where
    by_tests : (a b : Bool) → (not a && not b) ≡ not (b || a)
    by_tests true true = refl
    by_tests true false = refl
    by_tests false true = refl
    by_tests false false = refl

-- no byte of another character is escaped
kept : (c : ℕ) → is_byte2 92 34 c ≡ false → escaped (encode_utf8 c) ≡ encode_utf8 c
kept c e =
    escaped_none (encode_utf8 c) (λ k l marked.
    let whole : encode_utf8 c ≡ encode_utf8 c ++ [] = sym (append-nil (encode_utf8 c)) in
    let same : c ≡ get_or (encode_utf8 c) k 0 = inside_one c [] (encode_utf8 c) k whole l (escape_is_ascii (get_or (encode_utf8 c) k 0) marked) in
    let both : false ≡ true = sym e ∙ ap (is_byte2 92 34) same ∙ marked in
    no both)

one_more : (c : ℕ) (cs : List ℕ) → escaped (encode_utf8_all cs) ≡ encode_utf8_all (with_escapes cs)
    → escaped (encode_utf8 c ++ encode_utf8_all cs) ≡ encode_utf8_all (with_escapes (c ∷ cs))
one_more c cs later = by_test (is_byte2 92 34 c) refl
  where
    made : List ℕ
    made = encode_utf8_all (with_escapes cs)

    by_stands : (u : Bool) → stands_for_itself c ≡ u
        → encode_utf8_all (with_escapes (c ∷ cs)) ≡ encode_utf8_all (if u then c ∷ with_escapes cs else 92 ∷ (c ∷ with_escapes cs))
    by_stands u e = ap (λ b. encode_utf8_all (if b then c ∷ with_escapes cs else 92 ∷ (c ∷ with_escapes cs))) e

    by_test : (u : Bool) → is_byte2 92 34 c ≡ u → escaped (encode_utf8 c ++ encode_utf8_all cs) ≡ encode_utf8_all (with_escapes (c ∷ cs))
    by_test true e =
        let one : encode_utf8 c ≡ c ∷ [] = encode_ascii c (escape_is_ascii c e) in
        let right : encode_utf8_all (with_escapes (c ∷ cs)) ≡ 92 ∷ (c ∷ made) =
        by_stands false (stands c ∙ ap not e) ∙ ap (λ x. x ++ (encode_utf8 c ++ made)) (encode_ascii 92 (omega arith)) ∙ ap (λ x. 92 ∷ (x ++ made)) one in
        ap (λ x. escaped (x ++ encode_utf8_all cs)) one ∙ one_escaped c (encode_utf8_all cs) e ∙ ap (λ x. 92 ∷ (c ∷ x)) later ∙ sym right
    by_test false e =
        flat_map-append (λ b. if nat_eq b 92 || nat_eq b 34 then 92 ∷ b ∷ [] else b ∷ []) (encode_utf8 c) (encode_utf8_all cs)
        ∙ ap (λ x. x ++ escaped (encode_utf8_all cs)) (kept c e) ∙ ap (λ x. encode_utf8 c ++ x) later ∙ sym (by_stands true (stands c ∙ ap not e))

-- ---- all characters

escaped_bytes : (cs : List ℕ) → escaped (encode_utf8_all cs) ≡ encode_utf8_all (with_escapes cs)
escaped_bytes [] = refl
escaped_bytes (c ∷ cs) = one_more c cs (escaped_bytes cs)

escaped_scalars : (cs : List ℕ) → all_scalars cs ≡ true → all_scalars (with_escapes cs) ≡ true
escaped_scalars [] h = refl
escaped_scalars (c ∷ cs) h =
    let parts = and_parts _ (all_scalars cs) h in
    by_test (ap (λ u. u && all_scalars (with_escapes cs)) parts.0 ∙ escaped_scalars cs parts.1) (stands_for_itself c)
  where
    by_test : all_scalars (c ∷ with_escapes cs) ≡ true → (u : Bool) → all_scalars (if u then c ∷ with_escapes cs else 92 ∷ (c ∷ with_escapes cs)) ≡ true
    by_test first true = first
    by_test first false = first

bytes_are : (bs : List ℕ) (u : IsUtf8 bs) → encode_utf8_all (with_escapes u.0) ≡ escaped bs
bytes_are bs u = sym (escaped_bytes u.0) ∙ ap escaped u.1.1

-- an escaped text is text
pub escaped_utf8 : (bs : List ℕ) → IsUtf8 bs → IsUtf8 (escaped bs)
escaped_utf8 bs u = (with_escapes u.0, (escaped_scalars u.0 u.1.0, bytes_are bs u))

-- its characters are the escaped ones
pub escaped_chars : (bs : List ℕ) → IsUtf8 bs → chars (escaped bs) ≡ with_escapes (chars bs)
escaped_chars bs u =
    sym (chars_from_encodes (with_escapes u.0) (escaped bs) (escaped_utf8 bs u) (bytes_are bs u)) ∙ ap with_escapes (chars_from_encodes u.0 bs u u.1.1)

-- it is at most twice as long
pub escaped_long : (bs : List ℕ) → length (escaped bs) ≤ 2 * length bs
escaped_long [] = omega arith
escaped_long (b ∷ bs) = by_test (escaped_long bs) (nat_eq b 92 || nat_eq b 34)
  where
    by_test : length (escaped bs) ≤ 2 * length bs → (u : Bool) → length ((if u then 92 ∷ b ∷ [] else b ∷ []) ++ escaped bs) ≤ 2 * length (b ∷ bs)
    by_test later true = omega (arith, later)
    by_test later false = omega (arith, later)

-- and no shorter
pub escaped_short : (bs : List ℕ) → length bs ≤ length (escaped bs)
escaped_short [] = omega arith
escaped_short (b ∷ bs) = by_test (escaped_short bs) (nat_eq b 92 || nat_eq b 34)
  where
    by_test : length bs ≤ length (escaped bs) → (u : Bool) → length (b ∷ bs) ≤ length ((if u then 92 ∷ b ∷ [] else b ∷ []) ++ escaped bs)
    by_test later true = omega (arith, later)
    by_test later false = omega (arith, later)

-- ---- parts of a text

pub escaped_joined : (front bs : List ℕ) → length (escaped (front ++ bs)) ≡ length (escaped front) + length (escaped bs)
escaped_joined front bs =
    ap length (flat_map-append (λ b. if nat_eq b 92 || nat_eq b 34 then 92 ∷ b ∷ [] else b ∷ []) front bs) ∙ length-append (escaped front) (escaped bs)

in_two : (n : ℕ) (bs : List ℕ) → length (escaped bs) ≡ length (escaped (take n bs)) + length (escaped (drop n bs))
in_two n bs = ap (λ xs. length (escaped xs)) (sym (take-append-drop n bs)) ∙ escaped_joined (take n bs) (drop n bs)

pub escaped_take : (n : ℕ) (bs : List ℕ) → length (escaped (take n bs)) ≤ length (escaped bs)
escaped_take n bs = omega (arith, in_two n bs)

pub escaped_drop : (n : ℕ) (bs : List ℕ) → n ≤ length bs → length (escaped (drop n bs)) + n ≤ length (escaped bs)
escaped_drop n bs some = omega (arith, in_two n bs, escaped_short (take n bs), length-take-le n bs some)

pub escaped_slice : (bs : List ℕ) (at stop : ℕ) → at ≤ length bs → length (escaped (slice_range bs at stop)) ≤ length (escaped bs)
escaped_slice bs at stop some = omega (arith, escaped_take (stop - at) (drop at bs), escaped_drop at bs some)
