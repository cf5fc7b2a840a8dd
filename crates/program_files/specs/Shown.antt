-- A text in a message. (The Unicode Standard, "Control Codes"; the Unicode Bidirectional Algorithm,
-- "Directional Formatting Characters".)
use Rattle.std.specs.Prelude.{ℕ, List, [], ◌∷◌, Bool, not, ◌&&◌, ◌||◌, ◌==◌, nat_lt, if◌then◌else◌}
use Rattle.std.specs.Prelude.{chars, encode_utf8_all}
use Rattle.std.specs.List.{flat_map}
use Rattle.std.specs.Char.Escape.{escape_unicode}

-- a number of this range
abbrev pub is_within : ℕ → ℕ → ℕ → Bool
is_within low high c = not (nat_lt c low) && not (nat_lt high c)

-- a control, a line or paragraph separator, or a character that changes the direction of others
abbrev pub is_steering : ℕ → Bool
is_steering c =
    nat_lt c 0x20 || is_within 0x7f 0x9f c || c == 0x61c || is_within 0x200e 0x200f c
    || is_within 0x2028 0x202e c || is_within 0x2066 0x2069 c

-- a character as it is shown: one that steers by its number, as `\u{202e}`
abbrev pub shown_character : ℕ → List ℕ
shown_character c = if is_steering c then escape_unicode c else c ∷ []

-- a text as it is shown, in bytes
abbrev pub shown : List ℕ → List ℕ
shown text = encode_utf8_all (flat_map shown_character (chars text))
