-- What is left comes to the same as all ops.
use Rattle.std.proofs.Common.{◌≡◌, ◌≤◌, List, length}
use Rattle.tt_data.specs.declared.span.Span.{Span}
use Rattle.mbe_rules.specs.Ops.{items_of}
use Rattle.mbe_matcher.specs.Bound.{map_of}
use Rattle.mbe_transcriber.specs.Markers.{IsMarkedBy}
use Rattle.mbe_transcriber.specs.Tasks.{items_and, outcome, work_of}
use Rattle.mbe_transcriber.specs.declared.transcriber.TranscribeTask.{TranscribeTask}
use Rattle.mbe_transcriber.proofs.transcriber.put_leading.Given as goal

abbrev pub invariant-loop-first : goal.invariant-loop-first
invariant-loop-first g l =
    ((mark : Span → Span) (ts : List TranscribeTask) → IsMarkedBy (goal.M-post g l.marker) mark →
    items_and mark (map_of l.bindings) l.rounds (items_of l.ops) l.initial.out.tree (outcome mark (map_of l.bindings) ts l.rounds)
    ≡ items_and mark (map_of l.bindings) l.rounds (items_of l.left) l.out.tree (outcome mark (map_of l.bindings) ts l.rounds))
    × (work_of (items_of l.left) ≤ work_of (items_of l.ops))

abbrev pub decreases-loop-first : goal.decreases-loop-first
decreases-loop-first g l = length l.left
