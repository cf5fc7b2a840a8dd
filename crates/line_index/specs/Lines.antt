-- Positions in a text by line and column, as the Language Server Protocol has them: lines end with
-- `\n`, `\r\n` or `\r`, and a column counts UTF-16 code units. (LSP 3.17, "Text Documents" and
-- "Position".) A text is its bytes in UTF-8.
use Rattle.std.specs.Prelude.{◌≡◌, ◌≤◌, ℕ, zero, suc, ◌+◌, ◌-◌, Bool, true, false, if◌then◌else◌, ◌||◌, List, [], ◌∷◌, drop, length, nat_eq, nat_le, nat_lt, slice_index, slice_range, sum_by}
use Rattle.line_index.specs.declared.positions.Position.{Position}
use Rattle.line_index.specs.declared.spots.Spot.{Spot}

-- a line feed or a carriage return, which is in no line
abbrev pub is_break : ℕ → Bool
is_break b = nat_eq b 10 || nat_eq b 13

-- whether a text begins with a line feed
abbrev pub begins_with_feed : List ℕ → Bool
begins_with_feed [] = false
begins_with_feed (b ∷ bs) = nat_eq b 10

-- whether a line ends with this byte, before this rest: a line feed does, and a carriage return
-- that none follows
abbrev pub ends_line : ℕ → List ℕ → Bool
ends_line b rest = if nat_eq b 10 then true else if nat_eq b 13 then
    (if begins_with_feed rest then false else true) else false

-- the UTF-16 code units of the character that begins with this byte: two from U+10000 on; a byte
-- within a character counts none
abbrev pub units : ℕ → ℕ
units b = if nat_lt b 128 then 1 else if nat_lt b 192 then 0 else if nat_lt b 240 then 1 else 2

-- where a line begins, from line 0 on: behind as many line ends. A text with fewer lines ends
-- there.
abbrev pub line_start : List ℕ → ℕ → ℕ
line_start text zero = 0
line_start [] (suc line) = 0
line_start (b ∷ bs) (suc line) =
    if ends_line b bs then 1 + line_start bs line else 1 + line_start bs (suc line)

-- how many bytes of a line come before a column: whole characters, and none of the line's end
abbrev pub column_offset : List ℕ → ℕ → ℕ
column_offset [] column = 0
column_offset (b ∷ bs) column = if is_break b then 0 else
    (if nat_le (units b) column then 1 + column_offset bs (column - units b) else 0)

-- the byte at a position. A column behind the line's end is the end of the line, a line behind the
-- last is the end of the text, and a column within a surrogate pair is before the pair.
abbrev pub offset_of : List ℕ → (line column : ℕ) → ℕ
offset_of text line column = let start = line_start text line in
    start + column_offset (drop start text) column

-- the line of a byte, from 0: how many lines end before it
abbrev pub line_of : List ℕ → ℕ → ℕ
line_of text zero = 0
line_of [] (suc at) = 0
line_of (b ∷ bs) (suc at) = if ends_line b bs then 1 + line_of bs at else line_of bs at

-- the column of a byte, from 0: the code units between the begin of its line and it
abbrev pub column_of : List ℕ → ℕ → ℕ
column_of text at = sum_by units (slice_range text (line_start text (line_of text at)) at)

-- a position is that of a byte
abbrev pub IsPositionOf : List ℕ → ℕ → Position → Type 0
IsPositionOf text at p = (p.line ≡ line_of text at) × (p.column ≡ column_of text at)

-- a byte of a text, its end among them, with its position
abbrev pub IsSpot : List ℕ → Spot → Type 0
IsSpot text spot = (spot.at ≤ length text) × IsPositionOf text spot.at spot.position

-- a byte is within a line end of two bytes
abbrev pub IsWithinEnd : List ℕ → ℕ → Type 0
IsWithinEnd text zero = ⊥
IsWithinEnd text (suc before) =
    (slice_index text before ≡ 13) × (slice_index text (suc before) ≡ 10)
