-- JSON values that tell where something is in a text. (RFC 8259; of this project: the members.)
use Rattle.std.specs.Prelude.{ℕ, List, [], ◌∷◌, codes, length, map, min}
use Rattle.tt_data.specs.declared.span.TextRange.{TextRange}
use Rattle.serde_json.specs.Data.{Data, number, unsigned, array, object, member, no_members}
use Rattle.serde_json.specs.View.{items_of}
use Rattle.line_index.specs.Lines.{column_of, line_of}

-- a number
abbrev pub count : ℕ → Data
count n = number (unsigned n)

-- a list of numbers
abbrev pub numbers : List ℕ → Data
numbers ns = array (items_of (map count ns))

-- the position of a byte: its line and its UTF-16 column, both from 0. A byte past the end is the
-- end.
abbrev pub position : List ℕ → ℕ → Data
position text at = let byte : ℕ = min at (length text) in
    numbers (line_of text byte ∷ column_of text byte ∷ [])

-- a range of a text: its bytes, and the positions of both
abbrev pub place : List ℕ → TextRange → Data
place text range =
    object (member (codes "bytes") (numbers (range.start ∷ range.«end» ∷ []))
    (member (codes "end") (position text range.«end»)
    (member (codes "start") (position text range.start) no_members)))
