-- Texts and trees as they are shown within a line. (Of this project.)
use Rattle.std.specs.Prelude.{◌≡◌, ℕ, ◌-◌, List, [], ◌∷◌, ◌++◌, OnOk, Result, String}
use Rattle.std.specs.Prelude.{chars, codes, decimal, drop, encode_utf8_all, flat_map, if◌then◌else◌}
use Rattle.std.specs.Prelude.{◌==◌, length, nat_eq, nat_le, string_bytes, take}
use Rattle.core.specs.Str.{trim_end}
use Rattle.tt_data.specs.Forest.{Forest}
use Rattle.tt_data.specs.Walk.{walk}
use Rattle.bridge.specs.Printing.{Print, print_of}
use Rattle.hidden_marks.specs.Marks.{visible}

-- a call that succeeds adds these bytes to a text
abbrev pub Adds : {T E A : Type 0} → Result T E → (old new : String A) → List ℕ → Type 0
Adds result old new bytes = OnOk result (string_bytes new ≡ string_bytes old ++ bytes)

-- the bytes that show a character: a line feed is a blank, a hidden one its mark
abbrev pub shown_character : ℕ → List ℕ
shown_character c = if c == 10 then 32 ∷ [] else encode_utf8_all (visible c)

-- the bytes that show characters
abbrev pub shown : List ℕ → List ℕ
shown cs = flat_map shown_character cs

-- so many characters of printed trees are shown
abbrev pub most : ℕ
most = 60

-- and so many of each end, where there are more
abbrev pub side : ℕ
side = 28

-- characters without those in the middle, and how many tokens they are
abbrev pub middle_cut : List ℕ → ℕ → List ℕ
middle_cut cs tokens =
    shown (take side cs) ++ (codes " .. " ++ (shown (drop (length cs - side) cs)
    ++ (codes " (" ++ (decimal tokens ++ codes " tokens)"))))

-- the characters of a printed text
abbrev pub shown_characters : List ℕ → ℕ → List ℕ
shown_characters cs tokens =
    if nat_le (length cs) most then shown cs else middle_cut cs tokens

-- the characters of a printed text without the blanks at its end
abbrev pub shown_text : List ℕ → ℕ → List ℕ
shown_text cs tokens =
    if nat_eq (length cs) 0 then codes "(no tokens)" else shown_characters cs tokens

abbrev pub shown_print : Print → List ℕ
shown_print p = shown_text (chars (trim_end p.text)) (length p.tokens)

-- trees, printed alone
abbrev pub shown_trees : Forest → List ℕ
shown_trees f = shown_print (print_of (walk f))
