-- The tree that a call gives.
use Rattle.tt.specs.Tops.{Top}
use Rattle.tt_data.specs.Forest.{Forest}
use Rattle.tt_data.specs.declared.delimiter.Delimiter.{Delimiter}
use Rattle.tt_data.specs.declared.delimiter.DelimiterKind.TheVariants.{Invisible}
use Rattle.tt_data.specs.declared.span.Span.{Span}

-- trees inside these brackets
abbrev pub within : Delimiter → Forest → Top
within d f = record { delimiter = d; inner = f }

-- no brackets, with both ends at one span
abbrev pub no_brackets : Span → Delimiter
no_brackets place = record { open_span = place; close_span = place; kind = Invisible }
