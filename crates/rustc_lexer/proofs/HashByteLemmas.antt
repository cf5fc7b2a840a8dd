-- A hash is one byte, and no other character has that byte.
use Rattle.std.proofs.Common.{◌≡◌, ℕ, suc, ◌+◌, ◌-◌, ◌≤◌, ◌<◌, Bool, true, false, List, [], ◌∷◌, ◌++◌, length, refl, sym, ◌∙◌, ap, arith, chars, encode_utf8, encode_utf8_all, get_or, IsUtf8, if◌then◌else◌, length-append}
use Rattle.std.proofs.lemmas.Bool.Decides.{nat_tests}
use Rattle.std.proofs.lemmas.List.{append-nil, get_or-append-add}
use Rattle.std.proofs.lemmas.Str.{encode_ascii, encodes-chars, inside_one, len_utf8_bounds, length-encode}
use Rattle.std.specs.List.{prefix_len}
use Rattle.rustc_lexer.specs.Character.{char_at, is}
use Rattle.rustc_lexer.specs.Lexing.{ends_in_hash, run_on}

some_bytes : (c : ℕ) → 1 ≤ length (encode_utf8 c)
some_bytes c = omega (arith, length-encode c, (len_utf8_bounds c).0)

-- no byte of another character is a hash
other_byte : (c : ℕ) (bs : List ℕ) (i : ℕ) → is "#" c ≡ false → i < length (encode_utf8 c) → is "#" (get_or (encode_utf8 c ++ bs) i 0) ≡ false
other_byte c bs i h l = by_test (is "#" (get_or (encode_utf8 c ++ bs) i 0)) refl
  where
    by_test : (u : Bool) → is "#" (get_or (encode_utf8 c ++ bs) i 0) ≡ u → u ≡ false
    by_test false e = refl
    by_test true e =
        let here : get_or (encode_utf8 c ++ bs) i 0 ≡ 35 = grind (arith, nat_tests) in
        let same = inside_one c bs (encode_utf8 c ++ bs) i refl l (omega (arith, here)) in
        let c_is : c ≡ 35 = same ∙ here in
        let t : is "#" c ≡ true = ap (is "#") c_is in
        sym t ∙ h

-- ---- runs

pub none_passes : (bs : List ℕ) → is "#" (char_at bs 0) ≡ false → prefix_len (is "#") bs ≡ 0
none_passes [] h = refl
none_passes (b ∷ bs) h = rw h refl

run_of : (cs : List ℕ) → prefix_len (is "#") (encode_utf8_all cs) ≡ prefix_len (is "#") cs
run_of [] = refl
run_of (c ∷ cs) = by_test (is "#" c) refl (run_of cs)
  where
    by_test : (u : Bool) → is "#" c ≡ u → prefix_len (is "#") (encode_utf8_all cs) ≡ prefix_len (is "#") cs →
        prefix_len (is "#") (encode_utf8 c ++ encode_utf8_all cs) ≡ (if u then 1 + prefix_len (is "#") cs else 0)
    by_test true e again =
        let same : c ≡ 35 = grind (arith, nat_tests) in
        let one : encode_utf8 c ≡ 35 ∷ [] = ap encode_utf8 same ∙ encode_ascii 35 (omega arith) in
        ap (λ bs. prefix_len (is "#") (bs ++ encode_utf8_all cs)) one ∙ ap (λ n. 1 + n) again
    by_test false e again = none_passes (encode_utf8 c ++ encode_utf8_all cs) (other_byte c (encode_utf8_all cs) 0 e (some_bytes c))

pub run_in_bytes : (text : List ℕ) → IsUtf8 text → prefix_len (is "#") (chars text) ≡ prefix_len (is "#") text
run_in_bytes text u = sym (run_of (chars text)) ∙ ap (prefix_len (is "#")) (encodes-chars text u)

-- ---- ends

ends_append : (bs cs : List ℕ) → 1 ≤ length cs → ends_in_hash (bs ++ cs) ≡ ends_in_hash cs
ends_append bs [] l = absurd (omega (arith, l))
ends_append bs (c ∷ cs) l =
    let place : length (bs ++ c ∷ cs) - 1 ≡ length bs + length cs = omega (arith, length-append bs (c ∷ cs)) in
    let last : suc (length cs) - 1 ≡ length cs = omega arith in
    ap (λ i. is "#" (char_at (bs ++ c ∷ cs) i)) place ∙ ap (is "#") (get_or-append-add bs (c ∷ cs) (length cs) 0)
    ∙ ap (λ i. is "#" (char_at (c ∷ cs) i)) (sym last)

last_byte : (c : ℕ) → ends_in_hash (encode_utf8 c ++ []) ≡ is "#" c
last_byte c = by_test (is "#" c) refl
  where
    by_test : (u : Bool) → is "#" c ≡ u → ends_in_hash (encode_utf8 c ++ []) ≡ u
    by_test true e =
        let same : c ≡ 35 = grind (arith, nat_tests) in
        let one : encode_utf8 c ≡ 35 ∷ [] = ap encode_utf8 same ∙ encode_ascii 35 (omega arith) in
        ap (λ bs. ends_in_hash (bs ++ [])) one
    by_test false e =
        let some = some_bytes c in
        let size : length (encode_utf8 c ++ []) ≡ length (encode_utf8 c) = ap length (append-nil (encode_utf8 c)) in
        other_byte c [] (length (encode_utf8 c ++ []) - 1) e (omega (arith, some, size))

ends_of : (cs : List ℕ) → ends_in_hash (encode_utf8_all cs) ≡ ends_in_hash cs
ends_of [] = refl
ends_of (c ∷ []) = last_byte c
ends_of (c ∷ d ∷ cs) =
    let some : 1 ≤ length (encode_utf8 d ++ encode_utf8_all cs) = omega (arith, some_bytes d, length-append (encode_utf8 d) (encode_utf8_all cs)) in
    ends_append (encode_utf8 c) (encode_utf8 d ++ encode_utf8_all cs) some ∙ ends_of (d ∷ cs) ∙ sym (ends_append (c ∷ []) (d ∷ cs) (omega arith))

pub ends_in_bytes : (text : List ℕ) → IsUtf8 text → ends_in_hash (chars text) ≡ ends_in_hash text
ends_in_bytes text u = sym (ends_of (chars text)) ∙ ap ends_in_hash (encodes-chars text u)

-- ---- both

-- a run goes on in bytes as in characters
pub run_on_bytes : (before after : List ℕ) → IsUtf8 before → IsUtf8 after → run_on before after ≡ run_on (chars before) (chars after)
run_on_bytes before after u v =
    ap (λ t. if t then prefix_len (is "#") after else 0) (sym (ends_in_bytes before u))
    ∙ ap (λ n. if ends_in_hash (chars before) then n else 0) (sym (run_in_bytes after v))
