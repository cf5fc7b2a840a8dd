-- Escaped texts give their texts back.
use Rattle.std.proofs.Common.{◌≡◌, ℕ, ◌+◌, ◌/◌, ◌%◌, ◌<◌, List, [], ◌∷◌, ◌++◌, Bool, true, false, ltb-true, refl, sym, ap, ◌∙◌, append_assoc, arith}
use Rattle.std.proofs.lemmas.Bool.Decides.{nat_tests}
use Rattle.std.proofs.lemmas.Str.{encodes-append, encodes-chars, encodes_same}
use Rattle.std.specs.Prelude.{chars, encode_utf8_all, nat_lt, IsUtf8}
use Rattle.std.proofs.lemmas.List.Concat.{flat_map-append}
use Rattle.std.proofs.lemmas.List.{append-nil}
use Rattle.std.specs.List.{flat_map}
use Rattle.hidden_marks.proofs.MarkLemmas.{hidden_is_small}
use Rattle.hidden_marks.specs.Marks.{four_digits, hex_digit, hex_digits, is_hidden}
use Rattle.html_code.proofs.SafeLemmas.{bracket_is_hidden, digits_as, form, form_of}
use Rattle.html_code.specs.Escaping.{escape_of, escaped, is_markup}

hex_same : (m n : ℕ) → hex_digit m ≡ hex_digit n → m ≡ n
hex_same m n h = grind (arith, nat_tests)

from_digits : (c d : ℕ) → c / 16 / 16 / 16 ≡ d / 16 / 16 / 16 → c / 16 / 16 % 16 ≡ d / 16 / 16 % 16 → c / 16 % 16 ≡ d / 16 % 16
    → c % 16 ≡ d % 16 → c ≡ d
from_digits c d e3 e2 e1 e0 = omega arith

head_of : List ℕ → ℕ
head_of [] = 0
head_of (x ∷ xs) = x

-- `&` begins no mark
marks_apart : (r t : List ℕ) → 38 ∷ r ≡ 0x27e6 ∷ t → ⊥
unfolding head_of
marks_apart r t same = let e : 38 ≡ 0x27e6 = ap head_of same in omega (arith, e)

four_same : (c d : ℕ) (r t : List ℕ) → c < 65536 → d < 65536 → four_digits c ++ r ≡ four_digits d ++ t → (c ≡ d) × (r ≡ t)
four_same c d r t small low same =
    let d3 : hex_digit (c / 16 / 16 / 16) ≡ hex_digit (d / 16 / 16 / 16) = cc in
    let d2 : hex_digit (c / 16 / 16 % 16) ≡ hex_digit (d / 16 / 16 % 16) = cc in
    let d1 : hex_digit (c / 16 % 16) ≡ hex_digit (d / 16 % 16) = cc in
    let d0 : hex_digit (c % 16) ≡ hex_digit (d % 16) = cc in
    let rest : r ≡ t = cc in
    let e3 = hex_same (c / 16 / 16 / 16) (d / 16 / 16 / 16) d3 in
    let e2 = hex_same (c / 16 / 16 % 16) (d / 16 / 16 % 16) d2 in
    let e1 = hex_same (c / 16 % 16) (d / 16 % 16) d1 in
    let e0 = hex_same (c % 16) (d % 16) d0 in
    (from_digits c d e3 e2 e1 e0, rest)

-- no digit is the bracket that ends a mark
hex_is_low : (n : ℕ) → n < 16 → hex_digit n ≡ 0x27e7 → ⊥
hex_is_low n small same = grind (arith, nat_tests)

digits_same : (c d : ℕ) (few less : Bool) (r t : List ℕ) → nat_lt c 65536 ≡ few → nat_lt d 65536 ≡ less → c < 1048576 → d < 1048576
    → digits_as c few ++ 0x27e7 ∷ r ≡ digits_as d less ++ 0x27e7 ∷ t → (c ≡ d) × (r ≡ t)
digits_same c d true true r t is so small low same =
    let both = four_same c d (0x27e7 ∷ r) (0x27e7 ∷ t) (ltb-true c 65536 is) (ltb-true d 65536 so) same in
    let rest : r ≡ t = let e = both.1 in cc in
    (both.0, rest)
digits_same c d true false r t is so small low same =
    let e : 0x27e7 ≡ hex_digit (d % 65536 % 16) = cc in absurd (hex_is_low (d % 65536 % 16) (omega arith) (sym e))
digits_same c d false true r t is so small low same =
    let e : hex_digit (c % 65536 % 16) ≡ 0x27e7 = cc in absurd (hex_is_low (c % 65536 % 16) (omega arith) e)
digits_same c d false false r t is so small low same =
    let first : hex_digit (c / 65536) ≡ hex_digit (d / 65536) = cc in
    let others : four_digits (c % 65536) ++ 0x27e7 ∷ r ≡ four_digits (d % 65536) ++ 0x27e7 ∷ t = cc in
    let high = hex_same (c / 65536) (d / 65536) first in
    let both = four_same (c % 65536) (d % 65536) (0x27e7 ∷ r) (0x27e7 ∷ t) (omega arith) (omega arith) others in
    let rest : r ≡ t = let e = both.1 in cc in
    let lower = both.0 in
    (omega (arith, high, lower), rest)

-- two characters that are shown alike are equal, and so is what follows
forms_same : (c d : ℕ) (m h n i : Bool) (r t : List ℕ) → is_markup c ≡ m → is_hidden c ≡ h → is_markup d ≡ n → is_hidden d ≡ i
    → form c m h ++ r ≡ form d n i ++ t → (c ≡ d) × (r ≡ t)
forms_same c d true h true i r t a b e f same =
    let tens : 48 + c / 10 ≡ 48 + d / 10 = cc in
    let ones : 48 + c % 10 ≡ 48 + d % 10 = cc in
    let rest : r ≡ t = cc in
    (omega arith, rest)
forms_same c d true h false true r t a b e f same = absurd (marks_apart _ _ same)
forms_same c d true h false false r t a b e f same =
    let is : 38 ≡ d = cc in
    let no : true ≡ false = ap is_markup is ∙ e in cc
forms_same c d false true true i r t a b e f same = absurd (marks_apart _ _ (sym same))
forms_same c d false true false true r t a b e f same =
    let digits : hex_digits c ++ 0x27e7 ∷ r ≡ hex_digits d ++ 0x27e7 ∷ t =
    sym (append_assoc (hex_digits c) (0x27e7 ∷ []) r) ∙ (let e : (hex_digits c ++ 0x27e7 ∷ []) ++ r ≡ (hex_digits d ++ 0x27e7 ∷ []) ++ t = cc in e)
    ∙ append_assoc (hex_digits d) (0x27e7 ∷ []) t in
    digits_same c d (nat_lt c 65536) (nat_lt d 65536) r t refl refl (hidden_is_small c b) (hidden_is_small d f) digits
forms_same c d false true false false r t a b e f same =
    let is : 0x27e6 ≡ d = cc in
    let no : true ≡ false = sym bracket_is_hidden ∙ ap is_hidden is ∙ f in cc
forms_same c d false false true i r t a b e f same =
    let is : 38 ≡ c = cc in
    let no : true ≡ false = ap is_markup is ∙ a in cc
forms_same c d false false false true r t a b e f same =
    let is : 0x27e6 ≡ c = cc in
    let no : true ≡ false = sym bracket_is_hidden ∙ ap is_hidden is ∙ b in cc
forms_same c d false false false false r t a b e f same = let is : c ≡ d = cc in let rest : r ≡ t = cc in (is, rest)

one_same : (c d : ℕ) (r t : List ℕ) → escape_of c ++ r ≡ escape_of d ++ t → (c ≡ d) × (r ≡ t)
one_same c d r t same =
    forms_same c d (is_markup c) (is_hidden c) (is_markup d) (is_hidden d) r t refl refl refl refl
    (sym (ap (λ (xs : List ℕ). xs ++ r) (form_of c)) ∙ same ∙ ap (λ (xs : List ℕ). xs ++ t) (form_of d))

-- no character is shown by nothing
form_is_some : (c : ℕ) (m h : Bool) (r : List ℕ) → form c m h ++ r ≡ [] → ⊥
form_is_some c true h r same = cc
form_is_some c false true r same = cc
form_is_some c false false r same = cc

is_some : (c : ℕ) (r : List ℕ) → escape_of c ++ r ≡ [] → ⊥
is_some c r same = form_is_some c (is_markup c) (is_hidden c) r (sym (ap (λ (xs : List ℕ). xs ++ r) (form_of c)) ∙ same)

all_same : (cs ds : List ℕ) → flat_map escape_of cs ≡ flat_map escape_of ds → cs ≡ ds
all_same [] [] same = refl
all_same [] (d ∷ ds) same = absurd (is_some d (flat_map escape_of ds) (sym same))
all_same (c ∷ cs) [] same = absurd (is_some c (flat_map escape_of cs) same)
all_same (c ∷ cs) (d ∷ ds) same =
    let both = one_same c d (flat_map escape_of cs) (flat_map escape_of ds) same in
    ap (λ x. x ∷ cs) both.0 ∙ ap (λ (xs : List ℕ). d ∷ xs) (all_same cs ds both.1)

pub escaped_same : (a b : List ℕ) → IsUtf8 a → IsUtf8 b → escaped a ≡ escaped b → a ≡ b
escaped_same a b ua ub same =
    sym (encodes-chars a ua)
    ∙ ap encode_utf8_all (all_same (chars a) (chars b) (encodes_same (flat_map escape_of (chars a)) (flat_map escape_of (chars b)) same))
    ∙ encodes-chars b ub

-- one character more is shown
pub one_more_character : (old page new cs : List ℕ) (c : ℕ) → page ≡ old ++ encode_utf8_all (flat_map escape_of cs)
    → new ≡ page ++ encode_utf8_all (escape_of c) → new ≡ old ++ encode_utf8_all (flat_map escape_of (cs ++ c ∷ []))
one_more_character old page new cs c so_far added =
    let all : flat_map escape_of (cs ++ c ∷ []) ≡ flat_map escape_of cs ++ escape_of c =
    flat_map-append escape_of cs (c ∷ []) ∙ ap (λ (xs : List ℕ). flat_map escape_of cs ++ xs) (append-nil (escape_of c)) in
    added ∙ ap (λ (xs : List ℕ). xs ++ encode_utf8_all (escape_of c)) so_far
    ∙ append_assoc old (encode_utf8_all (flat_map escape_of cs)) (encode_utf8_all (escape_of c))
    ∙ ap (λ (xs : List ℕ). old ++ xs) (sym (encodes-append (flat_map escape_of cs) (escape_of c)) ∙ ap encode_utf8_all (sym all))
