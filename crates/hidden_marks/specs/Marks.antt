-- Characters that show nothing, or change the order of others, and the marks that show them.
use Rattle.std.specs.Prelude.{◌≡◌, ℕ, ◌+◌, ◌-◌, ◌/◌, ◌%◌, List, [], ◌∷◌, ◌++◌, Bool, not, ◌&&◌}
use Rattle.std.specs.Prelude.{◌||◌, ◌==◌, nat_lt, if◌then◌else◌, OnOk, Result, String}
use Rattle.std.specs.Prelude.{encode_utf8_all, string_bytes}
use Rattle.ucd_derived.specs.Binary.{is_default_ignorable_code_point}

-- a number of this range
abbrev pub is_within : ℕ → ℕ → ℕ → Bool
is_within low high c = not (nat_lt c low) && not (nat_lt high c)

-- a control, but no tab and no line feed
abbrev pub is_control : ℕ → Bool
is_control c = (nat_lt c 0x20 && not (c == 9) && not (c == 10)) || is_within 0x7f 0x9f c

-- the line and the paragraph separator, which end a line. (Unicode: `Zl` and `Zp`)
abbrev pub is_separator : ℕ → Bool
is_separator c = is_within 0x2028 0x2029 c

-- interlinear annotation, which stands for no character of the text. (Unicode, "Specials")
abbrev pub is_annotation : ℕ → Bool
is_annotation c = is_within 0xfff9 0xfffb c

-- what shows nothing by itself, or changes the order of what is beside it. Unicode's `Bidi_Control`
-- is a part of `Default_Ignorable_Code_Point`.
abbrev pub is_invisible : ℕ → Bool
is_invisible c = is_default_ignorable_code_point c || is_separator c || is_annotation c

-- what is shown by a mark; the bracket U+27E6 too, since a mark begins with it
abbrev pub is_hidden : ℕ → Bool
is_hidden c = is_control c || is_invisible c || c == 0x27e6

-- a digit of a hexadecimal number
abbrev pub hex_digit : ℕ → ℕ
hex_digit n = if nat_lt n 10 then 48 + n else 65 + (n - 10)

-- a number below 65,536 in four of them
abbrev pub four_digits : ℕ → List ℕ
four_digits n = hex_digit (n / 16 / 16 / 16) ∷ hex_digit (n / 16 / 16 % 16)
    ∷ hex_digit (n / 16 % 16) ∷ hex_digit (n % 16) ∷ []

-- a number below 1,048,576 in four of them, or in five if it needs as many
abbrev pub hex_digits : ℕ → List ℕ
hex_digits n = if nat_lt n 65536 then four_digits n
    else hex_digit (n / 65536) ∷ four_digits (n % 65536)

-- a character by its number between the brackets U+27E6 and U+27E7, as `⟦U+202E⟧`
abbrev pub mark_of : ℕ → List ℕ
mark_of c = 0x27e6 ∷ 85 ∷ 43 ∷ (hex_digits c ++ (0x27e7 ∷ []))

-- what is shown by a mark within a line: what is hidden, and what would end the line
abbrev pub is_marked : ℕ → Bool
is_marked c = is_hidden c || c == 10

-- a character as it is shown within a line
abbrev pub visible : ℕ → List ℕ
visible c = if is_marked c then mark_of c else c ∷ []

-- a call that succeeds adds these characters to a text
abbrev pub Adds : {T E A : Type 0} → Result T E → (old new : String A) → List ℕ → Type 0
Adds result old new added =
    OnOk result (string_bytes new ≡ string_bytes old ++ encode_utf8_all added)
