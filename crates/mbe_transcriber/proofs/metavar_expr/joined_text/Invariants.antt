use Rattle.std.specs.Prelude.{string_bytes}
use Rattle.tt_data.specs.declared.span.Span.{Span}
use Rattle.mbe_matcher.specs.Bound.{map_of}
use Rattle.mbe_transcriber.specs.Limits.{most_rounds}
use Rattle.mbe_transcriber.specs.Markers.{is_name}
use Rattle.mbe_transcriber.proofs.TextLemmas.{TextFrom}
use Rattle.mbe_transcriber.proofs.metavar_expr.joined_text.Given as goal

abbrev pub invariant-loop-part : goal.invariant-loop-part
invariant-loop-part l = (mark : Span → Span) → TextFrom is_name most_rounds mark (map_of l.bindings) l.rounds l.parts l.part-index (string_bytes l.text)
