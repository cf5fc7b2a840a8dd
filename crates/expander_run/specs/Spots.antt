-- Positions in a text, each with its line and its byte column.
use Rattle.std.specs.Prelude.{◌≡◌, ℕ, ◌≤◌, List, length}
use Rattle.expander_run.specs.Lines.{column_at, line_at}
use Rattle.expander_run.specs.declared.lines.Spot.{Spot}

-- a position within the text or at its end, with its line and its byte column
pub record IsSpot (text : List ℕ) (s : Spot) : Type 0 where
  pub inside : s.at ≤ length text
  pub line : s.line ≡ line_at text s.at
  pub column : s.column ≡ column_at text s.at
