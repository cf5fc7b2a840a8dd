-- Ranges of a text as a client names them. (LSP 3.17, "Position" and "Range".)
use Rattle.std.specs.Prelude.{ℕ, ◌≤◌, List, codes, length, min}
use Rattle.serde_json.specs.Data.{Data, number, object, member, no_members, unsigned}
use Rattle.line_index.specs.Lines.{IsPositionOf, column_of, line_of, offset_of}
use Rattle.line_index.specs.declared.positions.Position.{Position}
use Rattle.tt_data.specs.declared.span.TextRange.{TextRange}
use Rattle.session_workspace.specs.declared.ranges.Spot.{Spot}

-- a place by its line and its column
abbrev pub place_by : (line column : ℕ) → Data
place_by line column =
    object (member (codes "character") (number (unsigned column))
    (member (codes "line") (number (unsigned line)) no_members))

-- the place of a byte: one past the end of the text is taken as the end
abbrev pub place_data : List ℕ → ℕ → Data
place_data text at = let here = min at (length text) in
    place_by (line_of text here) (column_of text here)

-- a range of bytes, from the place of its start to the place of its end
abbrev pub range_data : List ℕ → TextRange → Data
range_data text range =
    object (member (codes "end") (place_data text range.«end»)
    (member (codes "start") (place_data text range.start) no_members))

-- the byte at a position
abbrev pub byte_at : List ℕ → Position → ℕ
byte_at text p = min (length text) (offset_of text p.line p.column)

-- a byte within the text or at its end, with its position
pub record IsSpot (text : List ℕ) (s : Spot) : Type 0 where
  pub inside : s.at ≤ length text
  pub position : IsPositionOf text s.at s.position
