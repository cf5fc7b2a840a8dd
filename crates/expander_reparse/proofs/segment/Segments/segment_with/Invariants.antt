use Rattle.std.proofs.Common.{◌≤◌, ◌-◌, length}
use Rattle.expander_reparse.proofs.segment.Segments.segment_with.Given as goal

abbrev pub invariant-loop-high : goal.invariant-loop-high
invariant-loop-high l = (l.low ≤ l.high) × (l.high ≤ length l.self.list.items)

abbrev pub decreases-loop-high : goal.decreases-loop-high
decreases-loop-high l = l.high - l.low
