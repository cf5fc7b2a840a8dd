-- Where a definition or the name of a call is written. (Of this project.)
use Rattle.std.specs.Prelude.{ℕ, ◌-◌, List, [], ◌++◌, Option, Some, None, chars, codes, decimal}
use Rattle.std.specs.Prelude.{if◌then◌else◌, nat_eq, slice_get}
use Rattle.tt_data.specs.Forest.{Forest}
use Rattle.tt_data.specs.declared.span.Span.{Span}
use Rattle.expander_model.specs.Definitions.{Definition, definition_of}
use Rattle.step_report.specs.Positions.{position_of}
use Rattle.step_report.specs.Shown.{shown}
use Rattle.step_report.specs.Texts.{Named}
use Rattle.step_report.specs.declared.positions.Position.{Position}

-- the name of another text, by its number, from 1, if it has one
abbrev pub other_name : Named → ℕ → Option (List ℕ)
other_name t number = if nat_eq number 0 then None else slice_get t.others (number - 1)

abbrev pub other_words : Option (List ℕ) → List ℕ
other_words None = codes "another text"
other_words (Some name) = shown (chars name)

-- a place of the text that is traced: file, line and column
abbrev pub own_words : Named → Position → List ℕ
own_words t p = shown (chars t.file)
    ++ (codes ":" ++ (decimal p.line ++ (codes ":" ++ decimal p.column)))

-- where a span is: its place in the text that is traced, or the name of another text
abbrev pub place : Named → Span → List ℕ
place t s = if nat_eq s.anchor 0 then own_words t (position_of t.text s.range.start)
    else other_words (other_name t s.anchor)

-- the name of a definition, and where it is written
abbrev pub name_of : Named → Option Definition → List ℕ
name_of t None = []
name_of t (Some d) =
    shown (chars d.name.sym) ++ (codes " (" ++ (place t d.name.span ++ codes ")"))

-- that of the definition that a piece is
abbrev pub name_in : Named → Forest → List ℕ
name_in t piece = name_of t (definition_of piece)
