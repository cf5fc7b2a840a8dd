-- Where in a text stands what a rule wants. (Of this project.)
use Rattle.std.specs.Prelude.{ℕ, ◌+◌, ◌-◌, ◌^◌, ◌&&◌, List, drop, length, slice_get, slice_range}
use Rattle.std.specs.Prelude.{Option, Some, None, if◌then◌else◌, nat_eq, nat_lt, option_and_then}
use Rattle.std.specs.Prelude.{option_map}
use Rattle.std.specs.List.{starts_with}
use Rattle.tt_data.specs.declared.leaf.Punct.{Punct}
use Rattle.tt_data.specs.declared.span.Span.{Span}
use Rattle.tt_data.specs.declared.span.TextRange.{TextRange}
use Rattle.mbe_rules.specs.declared.parser.Op as op
use Rattle.mbe_rules.specs.declared.parser.Separator.{Separator}
use Rattle.mbe_rules.specs.declared.parser.Separator.TheVariants as separator
use Rattle.mbe_explain.specs.Words.{op_text}
use Rattle.mbe_explain.specs.declared.wanted.Wanted.{Wanted}
use Rattle.mbe_explain.specs.declared.wanted.Wanted.TheVariants as wants

-- from the beginning of one token to the end of another
abbrev pub between : Span → Span → TextRange
between first last = record { start = first.range.start; «end» = last.range.«end» }

-- from a punct to the last of these
abbrev pub up_to_last : List Punct → Punct → Option TextRange
up_to_last ps first =
    option_map (λ last. between first.span last.span) (slice_get ps (length ps - 1))

-- from the first of some puncts to the last
abbrev pub puncts_range : List Punct → Option TextRange
puncts_range ps = option_and_then (up_to_last ps) (slice_get ps 0)

-- a text without its first and its last byte
abbrev pub bytes_within : List ℕ → List ℕ
bytes_within bytes = slice_range bytes 1 (length bytes - 1)

-- a metavariable that is written so, if the text has it where its `$` is; else that `$`
abbrev pub variable_range : List ℕ → TextRange → List ℕ → TextRange
variable_range text dollar written =
    if starts_with nat_eq (drop dollar.start text) written
    && nat_lt (dollar.start + length written) (2 ^ 32)
    then record { start = dollar.start; «end» = dollar.start + length written } else dollar

-- where an op stands; a metavariable's `$`, a group's opening bracket
abbrev pub op_range : op.Op → Option TextRange
op_range (op.Var name kind id) = Some id.range
op_range (op.Literal l) = Some l.span.range
op_range (op.Ident i) = Some i.span.range
op_range (op.Punct ps) = puncts_range ps.items
op_range (op.Lifetime p i) = Some (between p.span i.span)
op_range (op.Subtree' shape row d) = Some d.open_span.range
op_range _ = None

abbrev pub separator_range : Separator → Option TextRange
separator_range (separator.Literal l) = Some l.span.range
separator_range (separator.Ident i) = Some i.span.range
separator_range (separator.Lifetime p i) = Some (between p.span i.span)
separator_range (separator.Puncts ps) = puncts_range ps.items

-- where an op stands, a metavariable with its kind
abbrev pub wanted_op_range : List ℕ → op.Op → Option TextRange
wanted_op_range text (op.Var name kind id) =
    Some (variable_range text id.range (op_text (op.Var name kind id)))
wanted_op_range text o = op_range o

-- where what is wanted stands; nowhere, if it is an end
abbrev pub wanted_range : List ℕ → Wanted → Option TextRange
wanted_range text (wants.Op o) = wanted_op_range text o.now
wanted_range text (wants.Separator s) = separator_range s.now
wanted_range text wants.Close = None
wanted_range text wants.End = None
