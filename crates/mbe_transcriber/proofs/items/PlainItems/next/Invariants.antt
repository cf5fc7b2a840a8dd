use Rattle.std.proofs.Common.{◌≡◌, ◌≤◌}
use Rattle.mbe_transcriber.specs.Walks.{names_left, work_left}
use Rattle.mbe_transcriber.proofs.items.PlainItems.next.Given as goal

abbrev pub invariant-loop-first : goal.invariant-loop-first
invariant-loop-first l = (names_left l.initial.self ≡ names_left l.self) × (work_left l.self ≤ work_left l.initial.self)

abbrev pub decreases-loop-first : goal.decreases-loop-first
decreases-loop-first l = work_left l.self
