use Rattle.tt_data.specs.declared.span.Span.{Span}
use Rattle.mbe_rules.specs.Relabelling.{punct_with}
use Rattle.mbe_transcriber.specs.Markers.{IsMarkedBy}
use Rattle.mbe_transcriber.proofs.LeafLemmas.{PunctsFrom}
use Rattle.mbe_transcriber.proofs.leaf.put_marked_puncts.Given as goal

abbrev pub invariant-loop-punct : goal.invariant-loop-punct
invariant-loop-punct g l =
    (mark : Span → Span) → IsMarkedBy (goal.M-post g l.marker) mark → PunctsFrom (punct_with mark) l.puncts l.punct-index l.out.tree l.initial.out.tree
