-- The marks under a line.
use Rattle.std.specs.Prelude.{ℕ, List, [], ◌∷◌, ◌++◌, Bool, not, ◌&&◌, nat_le, nat_lt}
use Rattle.std.specs.Prelude.{if◌then◌else◌, length, replicate, slice_index, slice_range}
use Rattle.std.specs.Prelude.{string_bytes}
use Rattle.source_snippet.specs.Characters.{columns, shown}
use Rattle.source_snippet.specs.declared.message.Label.{Label}
use Rattle.source_snippet.specs.declared.message.Range.{Range}
use Rattle.source_snippet.specs.declared.message.Rank.{Rank}
use Rattle.source_snippet.specs.declared.message.Rank.TheVariants.{First, Second}

-- a label: what it marks, and what it says
pub record Row : Type 0 where
  pub ranges : List Range
  pub rank : Rank
  pub text : List ℕ

-- what a label of the code is
abbrev pub row_of : Label → Row
row_of l = record { ranges = l.ranges.items; rank = l.rank; text = string_bytes l.text }

-- ---- the bytes of a line

-- the first byte of no character. (The Unicode Standard, "UTF-8")
abbrev pub is_continuation : ℕ → Bool
is_continuation b = nat_le 128 b && nat_lt b 192

-- a byte of a line, or its end, is between two characters
abbrev pub is_between : List ℕ → ℕ → Bool
is_between line i = nat_le i (length line) && not (is_continuation (slice_index line i))

-- the bytes from i up to j, if both are between characters and in order; else none
abbrev pub part : List ℕ → ℕ → ℕ → List ℕ
part line i j =
    if nat_le i j && is_between line i && is_between line j then slice_range line i j else []

-- ---- marks

-- the mark of a rank: `^` or `-`
abbrev pub mark_of : Rank → ℕ
mark_of First = 94
mark_of Second = 45

-- a mark under each column of a text, one if there is none
abbrev pub marks : ℕ → List ℕ → List ℕ
marks mark [] = mark ∷ []
marks mark text = replicate (columns text) mark

-- the marks under some ranges of a line, from byte `at` on: blanks up to each range, and its marks
abbrev pub underline : ℕ → List ℕ → ℕ → List Range → List ℕ
underline mark line at [] = []
underline mark line at (r ∷ rs) =
    replicate (columns (part line at r.start)) 32
    ++ (marks mark (part line r.start r.end) ++ underline mark line r.end rs)

-- what is said after the marks
abbrev pub said : List ℕ → List ℕ
said [] = []
said text = 32 ∷ shown text

-- the marks of a label of a line, and what is said after them
abbrev pub marked : List ℕ → Row → List ℕ
marked line r = underline (mark_of r.rank) line 0 r.ranges ++ said r.text
