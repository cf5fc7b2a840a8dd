-- A text within one line, as it is shown.
use Rattle.std.specs.Prelude.{◌≡◌, ℕ, List, [], ◌∷◌, ◌++◌, ◌==◌, if◌then◌else◌, OnOk, Result}
use Rattle.std.specs.Prelude.{String, chars, encode_utf8_all, length, string_bytes}
use Rattle.std.specs.List.{flat_map}
use Rattle.hidden_marks.specs.Marks.{visible}

-- a character as it is shown: a tab is four blanks, a hidden character its mark
abbrev pub shown_character : ℕ → List ℕ
shown_character c = if c == 9 then 32 ∷ 32 ∷ 32 ∷ 32 ∷ [] else visible c

-- the bytes that show a text
abbrev pub shown : List ℕ → List ℕ
shown text = encode_utf8_all (flat_map shown_character (chars text))

-- how many characters show a text
abbrev pub columns : List ℕ → ℕ
columns text = length (flat_map shown_character (chars text))

-- a call that succeeds adds these bytes to a text
abbrev pub Adds : {T E A : Type 0} → Result T E → (old new : String A) → List ℕ → Type 0
Adds result old new bytes = OnOk result (string_bytes new ≡ string_bytes old ++ bytes)
