use Rattle.std.proofs.Common.{map, take}
use Rattle.expander_reparse.specs.Reparsing.{AddsPieces, AreMet}
use Rattle.expander_reparse.specs.Segments.{IsCachedSegment, part_shown}
use Rattle.expander_reparse.specs.declared.segment.Segments.{Segments}
use Rattle.expander_reparse.proofs.segment_builder.push_parts.Given as goal

abbrev pub invariant-loop-i : goal.invariant-loop-i
invariant-loop-i l =
    AddsPieces (map (part_shown l.fn.at) (take l.i l.parts)) l.fn.own.items l.own.items
    × ((sources : Segments) → IsCachedSegment sources l.fn.held → AreMet sources l.fn.own.items → AreMet sources l.own.items)
