-- Which token of an argument comes where so many steps are left. (Of this project.)
use Rattle.std.specs.Prelude.{ℕ, ◌-◌, Option, option_map, slice_get}
use Rattle.fragment_grammar.specs.Steps.{steps}
use Rattle.tt_data.specs.Forest.{Forest}
use Rattle.tt_data.specs.Spans.{span_of}
use Rattle.tt_data.specs.Walk.{Step, at_leaf, opens, closes, walk}
use Rattle.tt_data.specs.declared.span.Span.{Span}

-- the span of a step: of a leaf, an opening or a closing
abbrev pub span_at : Step → Span
span_at (at_leaf l) = span_of l
span_at (opens k s) = s
span_at (closes k s) = s

-- the span of the step that comes where n steps of an argument are left; none at its end
abbrev pub span_before_end : Forest → ℕ → Option Span
span_before_end f n = option_map span_at (slice_get (walk f) (steps f - n))
