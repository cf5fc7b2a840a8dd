-- No character of an escaped text is unsafe.
use Rattle.std.proofs.Common.{◌≡◌, ℕ, ◌+◌, ◌/◌, ◌%◌, ◌<◌, List, [], ◌∷◌, ◌++◌, Bool, true, false, ltb-true, refl, sym, ap, subst, ◌∙◌, arith}
use Rattle.std.proofs.lemmas.Bool.Decides.{nat_tests}
use Rattle.std.proofs.lemmas.Str.{encodes-append, NoCharPasses-append, NoCharPasses-nil}
use Rattle.std.specs.Prelude.{◌||◌, ◌==◌, ◌⊎◌, nat_lt, chars, encode_utf8_all, if◌then◌else◌}
use Rattle.std.proofs.Common.{inl, inr}
use Rattle.std.specs.List.{flat_map}
use Rattle.std.specs.Str.{NoCharPasses, NonePass}
use Rattle.ucd_derived.proofs.Computing.{ucd_derived}
use Rattle.hidden_marks.proofs.MarkLemmas.{hidden_is_small, neither, no_invisible}
use Rattle.hidden_marks.specs.Marks.{four_digits, hex_digit, is_control, is_hidden, is_invisible, mark_of}
use Rattle.html_code.specs.Escaping.{escape_of, escaped, is_markup, is_unsafe, reference_of}

-- ---- tests that are joined by `||`

pub or_left : (a b : Bool) → (a || b) ≡ false → a ≡ false
or_left true b h = h
or_left false b h = refl

pub or_right : (a b : Bool) → (a || b) ≡ false → b ≡ false
or_right true b h = cc
or_right false b h = h

-- ---- what is shown as it is

is_unsafe_from : (c : ℕ) → (c == 60) ≡ false → (c == 62) ≡ false → (c == 34) ≡ false → (c == 39) ≡ false
    → is_control c ≡ false → is_invisible c ≡ false → is_unsafe c ≡ false
is_unsafe_from c a b d e f g =
    neither _ (is_invisible c) (neither _ (is_control c)
    (neither _ (c == 39) (neither _ (c == 34) (neither (c == 60) (c == 62) a b) d) e) f) g

itself : (c : ℕ) → is_markup c ≡ false → is_hidden c ≡ false → is_unsafe c ≡ false
itself c m h =
    let m5 = or_left (c == 38 || c == 60 || c == 62 || c == 34 || c == 39) (c == 13) m in
    let m4 = or_left (c == 38 || c == 60 || c == 62 || c == 34) (c == 39) m5 in
    let m3 = or_left (c == 38 || c == 60 || c == 62) (c == 34) m4 in
    let m2 = or_left (c == 38 || c == 60) (c == 62) m3 in
    let h2 = or_left (is_control c || is_invisible c) (c == 0x27e6) h in
    is_unsafe_from c (or_right (c == 38) (c == 60) m2) (or_right (c == 38 || c == 60) (c == 62) m3)
    (or_right (c == 38 || c == 60 || c == 62) (c == 34) m4) (or_right (c == 38 || c == 60 || c == 62 || c == 34) (c == 39) m5)
    (or_left (is_control c) (is_invisible c) h2) (or_right (is_control c) (is_invisible c) h2)

-- ---- digits

no_control : (c : ℕ) → 42 < c → c < 127 → is_control c ≡ false
no_control c a b = grind (arith, nat_tests)

apart : (c k : ℕ) → (c ≡ k → ⊥) → (c == k) ≡ false
apart c k h = grind (arith, nat_tests)

letter : (c : ℕ) → 42 < c → c < 127 → (c ≡ 60 → ⊥) → (c ≡ 62 → ⊥) → is_unsafe c ≡ false
letter c a b d e =
    is_unsafe_from c (apart c 60 d) (apart c 62 e) (apart c 34 (λ i. absurd (omega arith))) (apart c 39 (λ i. absurd (omega arith)))
    (no_control c a b) (no_invisible c (omega arith))

decimal_is_safe : (n : ℕ) → n < 10 → is_unsafe (48 + n) ≡ false
decimal_is_safe n small =
    letter (48 + n) (omega arith) (omega arith) (λ i. absurd (omega arith)) (λ i. absurd (omega arith))

hex_as : (n : ℕ) → n < 16 → ((n < 10) × (hex_digit n ≡ 48 + n)) ⊎ ((9 < n) × (hex_digit n ≡ 55 + n))
hex_as n small = grind (arith, nat_tests)

hex_is_safe : (n : ℕ) → n < 16 → is_unsafe (hex_digit n) ≡ false
hex_is_safe n small =
    elim (hex_as n small) [
      | inl w ↦ ap is_unsafe w.1 ∙ decimal_is_safe n w.0
      | inr w ↦ ap is_unsafe w.1 ∙ letter (55 + n) (omega arith) (omega arith) (λ i. absurd (omega arith)) (λ i. absurd (omega arith))
    ]

-- ---- all that a text is shown by

markup_is_small : (c : ℕ) → is_markup c ≡ true → c < 100
markup_is_small c h = grind (arith, nat_tests)

-- what a character is shown by, where it is known what it is
abbrev pub form : ℕ → Bool → Bool → List ℕ
form c true h = reference_of c
form c false true = mark_of c
form c false false = c ∷ []

-- what a reference and a mark have beside their digits
ampersand : is_unsafe 38 ≡ false
unfolding ucd_derived
ampersand = refl

number_sign : is_unsafe 35 ≡ false
unfolding ucd_derived
number_sign = refl

semicolon : is_unsafe 59 ≡ false
unfolding ucd_derived
semicolon = refl

letter_u : is_unsafe 85 ≡ false
unfolding ucd_derived
letter_u = refl

plus_sign : is_unsafe 43 ≡ false
unfolding ucd_derived
plus_sign = refl

opening_is_safe : is_unsafe 0x27e6 ≡ false
unfolding ucd_derived
opening_is_safe = refl

closing_is_safe : is_unsafe 0x27e7 ≡ false
unfolding ucd_derived
closing_is_safe = refl

four_are_safe : (n : ℕ) (more : List ℕ) → n < 65536 → NonePass is_unsafe more → NonePass is_unsafe (four_digits n ++ more)
four_are_safe n more small safe = (
  hex_is_safe (n / 16 / 16 / 16) (omega arith),
  (
    hex_is_safe (n / 16 / 16 % 16) (omega arith),
    (hex_is_safe (n / 16 % 16) (omega arith), (hex_is_safe (n % 16) (omega arith), safe)),
  ),
)

-- digits as they are where it is known how many
abbrev pub digits_as : ℕ → Bool → List ℕ
digits_as n few = if few then four_digits n else hex_digit (n / 65536) ∷ four_digits (n % 65536)

digits_are_safe : (n : ℕ) (few : Bool) (more : List ℕ) → nat_lt n 65536 ≡ few → n < 1048576 → NonePass is_unsafe more
    → NonePass is_unsafe (digits_as n few ++ more)
digits_are_safe n true more is small safe = four_are_safe n more (ltb-true n 65536 is) safe
digits_are_safe n false more is small safe = (hex_is_safe (n / 65536) (omega arith), four_are_safe (n % 65536) more (omega arith) safe)

form_is_safe : (c : ℕ) (m h : Bool) → is_markup c ≡ m → is_hidden c ≡ h → NonePass is_unsafe (form c m h)
form_is_safe c true h a b =
    let small : c < 100 = markup_is_small c a in
    (ampersand, (number_sign, (decimal_is_safe (c / 10) (omega arith), (decimal_is_safe (c % 10) (omega arith), (semicolon, tt)))))
form_is_safe c false true a b =
    (opening_is_safe, (letter_u, (plus_sign, digits_are_safe c (nat_lt c 65536) (0x27e7 ∷ []) refl (hidden_is_small c b) (closing_is_safe, tt))))
form_is_safe c false false a b = (itself c a b, tt)

pub bracket_is_hidden : is_hidden 0x27e6 ≡ true
unfolding ucd_derived
bracket_is_hidden = refl

pub form_of : (c : ℕ) → escape_of c ≡ form c (is_markup c) (is_hidden c)
form_of c =
    elim (is_markup c) as (λ m. (if m then reference_of c else if is_hidden c then mark_of c else c ∷ []) ≡ form c m (is_hidden c)) [
      | true ↦ refl
      | false ↦ elim (is_hidden c) as (λ h. (if h then mark_of c else c ∷ []) ≡ form c false h) [ true ↦ refl | false ↦ refl ]
    ]

one_is_safe : (c : ℕ) → NoCharPasses is_unsafe (encode_utf8_all (escape_of c))
one_is_safe c =
    let safe : NonePass is_unsafe (form c (is_markup c) (is_hidden c)) = form_is_safe c (is_markup c) (is_hidden c) refl refl in
    (escape_of c, refl, subst (NonePass is_unsafe) (sym (form_of c)) safe)

all_are_safe : (cs : List ℕ) → NoCharPasses is_unsafe (encode_utf8_all (flat_map escape_of cs))
all_are_safe [] = NoCharPasses-nil is_unsafe
all_are_safe (c ∷ cs) =
    subst (NoCharPasses is_unsafe) (sym (encodes-append (escape_of c) (flat_map escape_of cs)))
    (NoCharPasses-append is_unsafe (encode_utf8_all (escape_of c)) (encode_utf8_all (flat_map escape_of cs)) (one_is_safe c) (all_are_safe cs))

pub escaped_is_safe : (text : List ℕ) → NoCharPasses is_unsafe (escaped text)
escaped_is_safe text = all_are_safe (chars text)

-- a character that is no markup and not hidden is shown as it is
pub plain_form : (c : ℕ) → is_markup c ≡ false → is_hidden c ≡ false → escape_of c ≡ c ∷ []
plain_form c m h = form_of c ∙ ap (λ b. form c b (is_hidden c)) m ∙ ap (λ b. form c false b) h
