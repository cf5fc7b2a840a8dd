-- The bytes with which lines end, one after the other.
use Rattle.std.specs.Prelude.{◌≡◌, ◌≤◌, ◌<◌, ◌+◌, ℕ, true, List, drop, length, slice_index, Option, Some, None}
use Rattle.line_index.specs.Lines.{ends_line}

-- a line ends with the byte at this place
abbrev pub IsEnd : List ℕ → ℕ → Type 0
IsEnd text at = ends_line (slice_index text at) (drop (at + 1) text) ≡ true

-- none ends from one place up to another
abbrev pub NoneEnds : List ℕ → (from to : ℕ) → Type 0
NoneEnds text from to = (at : ℕ) → from ≤ at → at < to → IsEnd text at → ⊥

-- the first byte from a place on with which a line ends
pub record IsFirstEnd (text : List ℕ) (from at : ℕ) : Type 0 where
  pub behind : from ≤ at
  pub within : at < length text
  pub none : NoneEnds text from at
  pub ends : IsEnd text at

-- that byte, if there is one
abbrev pub IsNextEnd : List ℕ → ℕ → Option ℕ → Type 0
IsNextEnd text from None = NoneEnds text from (length text)
IsNextEnd text from (Some at) = IsFirstEnd text from at
