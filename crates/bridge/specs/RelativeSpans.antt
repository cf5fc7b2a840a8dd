-- Piece-relative spans, and what they are where the piece is.
use Rattle.std.specs.Prelude.{ℕ, ◌+◌, ◌^◌, Bool, ◌&&◌, ◌||◌, if◌then◌else◌, leb, ltb, nat_eq}
use Rattle.tt_data.specs.declared.span.Span.{Span}
use Rattle.bridge.specs.declared.printing.relative_spans.Place.{Place}
use Rattle.bridge.specs.declared.printing.relative_spans.Shift.{Shift}

-- a place of the text that is expanded
abbrev pub own_place : ℕ → Place
own_place start = record { text = 0; start = start }

-- a span counted from a place, as a span of its text
abbrev pub moved_to : Place → Span → Span
moved_to p s = record {
  range = record { start = p.start + s.range.start; «end» = p.start + s.range.«end» };
  anchor = p.text;
  ctx = s.ctx;
}

-- the place that a span counts from
abbrev pub counted_from : Shift → Span → Place
counted_from shift s = if nat_eq s.anchor 0 then shift.own else shift.other

-- a span of a piece that is there, as a span of its text
abbrev pub shifted : Shift → Span → Span
shifted shift s = moved_to (counted_from shift s) s

-- a span whose range is within a bound, and whose anchor is 0 or this one
abbrev pub is_within : ℕ → ℕ → Span → Bool
is_within reach anchor s = leb s.range.start reach && (leb s.range.«end» reach && (nat_eq s.anchor 0 || nat_eq s.anchor anchor))

-- a span whose anchor is 0 or this one
abbrev pub is_anchored : ℕ → Span → Bool
is_anchored anchor s = nat_eq s.anchor 0 || nat_eq s.anchor anchor

-- a span that fits in a text when it is shifted
abbrev pub is_in_text : Shift → Span → Bool
is_in_text shift s =
    ltb ((counted_from shift s).start + s.range.start) (2 ^ 32) && ltb ((counted_from shift s).start + s.range.«end») (2 ^ 32)
