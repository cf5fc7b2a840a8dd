-- A message about a range of a text. (Of this project.)
use Rattle.std.specs.Prelude.{◌≡◌, ℕ, ◌-◌, List, [], ◌∷◌}
use Rattle.tt_data.specs.declared.span.TextRange.{TextRange}
use Rattle.source_snippet.specs.Lines.{IsLineAt, column_in, line_number}
use Rattle.source_snippet.specs.Messages.{Numbered, Part, message}
use Rattle.source_snippet.specs.declared.message.Range.{Range}
use Rattle.source_snippet.specs.declared.message.Rank.TheVariants.{First}

-- the bytes of a range, counted from a line's first byte
abbrev pub within : ℕ → TextRange → Range
within start r = record { start = r.start - start; end = r.end - start }

-- the line in which a range begins, with marks under the range and these words after them
pub record IsQuoted (text : List ℕ) (range : TextRange) (words : List ℕ) (start : ℕ) (l : Numbered)
    : Type 0 where
  pub at : IsLineAt text range.start start l.text
  pub number : l.number ≡ line_number text range.start
  pub rows : l.rows ≡ record {
    ranges = within start range ∷ [];
    rank = First;
    text = words;
  } ∷ []

-- a part with this title, whose place is where a range begins, with that line quoted so
pub record IsAbout (file text title words : List ℕ) (range : TextRange) (p : Part) : Type 0 where
  pub start : ℕ
  pub only : Numbered
  pub quoted : IsQuoted text range words start only
  pub has_title : p.title ≡ title
  pub has_file : p.file ≡ file
  pub has_line : p.line ≡ only.number
  pub has_column : p.column ≡ column_in only.text (range.start - start)
  pub has_lines : p.lines ≡ only ∷ []
  pub has_notes : p.notes ≡ []

-- these are the lines of a message of one such part
pub record IsPlain (file text title words : List ℕ) (range : TextRange) (added : List ℕ)
    : Type 0 where
  pub only : Part
  pub about : IsAbout file text title words range only
  pub is : added ≡ message (only ∷ [])
