use Rattle.std.proofs.Common.{◌≡◌, ◌≤◌, [], reverse}
use Rattle.tt.specs.Building.{count_of}
use Rattle.tt_data.specs.declared.span.Span.{Span}
use Rattle.mbe_rules.specs.Ops.{items_of}
use Rattle.mbe_matcher.specs.Bound.{map_of}
use Rattle.mbe_transcriber.specs.Markers.{IsMarkedBy}
use Rattle.mbe_transcriber.specs.Tasks.{filled_up, items_and, outcome, tasks_of_all}
use Rattle.mbe_transcriber.proofs.transcriber.fill_within.Given as goal

abbrev pub invariant-loop-task : goal.invariant-loop-task
invariant-loop-task g l =
    ((mark : Span → Span) → IsMarkedBy (goal.M-post g l.marker) mark →
    items_and mark (map_of l.bindings) [] (items_of l.template) l.initial.out.tree filled_up
    ≡ outcome mark (map_of l.bindings) (reverse l.left.tasks.items) l.left.rounds.items l.out.tree)
    × (l.left.tasks.items ≡ [] → count_of l.out.tree ≤ l.most)

abbrev pub decreases-loop-task : goal.decreases-loop-task
decreases-loop-task g l = tasks_of_all l.left.tasks.items
