-- A text as HTML that shows it. (The HTML Standard, "Character references".)
use Rattle.std.specs.Prelude.{ℕ, ◌+◌, ◌/◌, ◌%◌, List, [], ◌∷◌, Bool, ◌||◌, ◌==◌, if◌then◌else◌}
use Rattle.std.specs.Prelude.{chars, encode_utf8_all}
use Rattle.std.specs.List.{flat_map}
use Rattle.hidden_marks.specs.Marks.{is_control, is_hidden, is_invisible, mark_of}

-- `&`, `<`, `>`, `"`, `'`, which have a meaning in HTML, and a carriage return, which its readers
-- drop
abbrev pub is_markup : ℕ → Bool
is_markup c = c == 38 || c == 60 || c == 62 || c == 34 || c == 39 || c == 13

-- a character of two decimal digits by its number, as `&#38;`
abbrev pub reference_of : ℕ → List ℕ
reference_of c = 38 ∷ 35 ∷ (48 + c / 10) ∷ (48 + c % 10) ∷ 59 ∷ []

-- the characters that show a character
abbrev pub escape_of : ℕ → List ℕ
escape_of c = if is_markup c then reference_of c else if is_hidden c then mark_of c else c ∷ []

-- the bytes that show a text
abbrev pub escaped : List ℕ → List ℕ
escaped text = encode_utf8_all (flat_map escape_of (chars text))

-- a character that ends or begins a tag, an attribute or its value, or that would be hidden
abbrev pub is_unsafe : ℕ → Bool
is_unsafe c = c == 60 || c == 62 || c == 34 || c == 39 || is_control c || is_invisible c
