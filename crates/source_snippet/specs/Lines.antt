-- The line of a text in which a byte is.
use Rattle.std.specs.Prelude.{◌≡◌, ◌≢◌, ℕ, ◌+◌, ◌-◌, ◌≤◌, ◌<◌, ◌⊎◌, List, length, min, chars}
use Rattle.std.specs.Prelude.{◌==◌, count_by, slice_index, slice_range, take}
use Rattle.source_snippet.specs.Underlines.{part}

-- a line from one byte ends at another: with the text; before a line feed, with no carriage return
-- right before; or before both
abbrev pub EndsAt : List ℕ → ℕ → ℕ → Type 0
EndsAt text start end =
    (end ≡ length text)
    ⊎ (((slice_index text end ≡ 10) × (start < end → slice_index text (end - 1) ≢ 13))
    ⊎ ((slice_index text end ≡ 13) × (slice_index text (end + 1) ≡ 10)))

-- this is the line in which a byte is, from byte `start` on; a byte past the end of the text is
-- taken as the end. A line has no line feed in it, nor is one between it and the byte.
pub record IsLineAt (text : List ℕ) (at start : ℕ) (line : List ℕ) : Type 0 where
  pub before : start ≤ min at (length text)
  pub begins : (start ≡ 0) ⊎ (slice_index text (start - 1) ≡ 10)
  pub is : line ≡ slice_range text start (start + length line)
  pub inside : start + length line ≤ length text
  pub ends : EndsAt text start (start + length line)
  pub one : (k : ℕ) → start ≤ k → k < start + length line → slice_index text k ≢ 10
  pub no_other : (k : ℕ) → start ≤ k → k < min at (length text) → slice_index text k ≢ 10

-- the number of the line in which a byte is, from 1: one more than the line feeds before it
abbrev pub line_number : List ℕ → ℕ → ℕ
line_number text at = count_by (λ b. b == 10) (take at text) + 1

-- the column of a byte of a line in characters, from 1
abbrev pub column_in : List ℕ → ℕ → ℕ
column_in line at = length (chars (part line 0 at)) + 1
