use Rattle.std.proofs.Common.{◌≡◌, ◌-◌, ℕ, List}
use Rattle.tt_data.specs.declared.span.Span.{Span}
use Rattle.mbe_rules.specs.Ops.{items_of}
use Rattle.mbe_matcher.specs.Bindings.{Map}
use Rattle.mbe_matcher.specs.Bound.{values_of}
use Rattle.mbe_transcriber.specs.Limits.{most_rounds}
use Rattle.mbe_transcriber.specs.Given.{HasValues}
use Rattle.mbe_transcriber.specs.Tasks.{outcome, rounds_and}
use Rattle.mbe_transcriber.specs.declared.transcriber.TranscribeTask.{TranscribeTask}
use Rattle.mbe_transcriber.proofs.single_var.put_later.Given as goal

abbrev pub invariant-loop-place : goal.invariant-loop-place
invariant-loop-place l =
    (mark : Span → Span) (bound : Map) (ns : List ℕ) (ts : List TranscribeTask) → HasValues mark bound ns (items_of l.left.body.now) l.place l.left.count (values_of l.values) →
    rounds_and mark bound ns l.left l.initial.out.tree (outcome mark bound ts ns)
    ≡ rounds_and mark bound ns (record l.left { number = l.number }) l.out.tree (outcome mark bound ts ns)

abbrev pub decreases-loop-place : goal.decreases-loop-place
decreases-loop-place l = most_rounds - l.number
