-- Bytes of a text whose positions are known.
use Rattle.std.specs.Prelude.{◌≡◌, ℕ, ◌+◌, ◌≤◌, List, All, length}
use Rattle.step_report.specs.Positions.{position_of}
use Rattle.step_report.specs.declared.positions.Spot.{Spot}
use Rattle.step_report.specs.declared.positions.Spots.{Spots}

-- a byte of the text, or its end, with its position
pub record IsSpot (text : List ℕ) (s : Spot) : Type 0 where
  pub inside : s.at ≤ length text
  pub position : s.position ≡ position_of text s.at
  pub line : s.position.line ≤ s.at + 1
  pub column : s.position.column ≤ s.at + 1

-- each is a spot of this text
abbrev pub AreOf : List ℕ → Spots → Type 0
AreOf text spots = All (IsSpot text) spots.list.items
