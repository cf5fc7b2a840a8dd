use Rattle.std.proofs.Common.{◌≤◌, ◌-◌}
use Rattle.token_bytes.specs.Marks.{IsMarkIn}
use Rattle.token_bytes.proofs.buffer.TokenBuffer.mark_after.Given as goal

-- a mark that is not past the wanted one
abbrev pub invariant-loop-at : goal.invariant-loop-at
invariant-loop-at l = IsMarkIn l.at l.self × (l.at.count ≤ l.fn.count)

abbrev pub decreases-loop-at : goal.decreases-loop-at
decreases-loop-at l = l.fn.count - l.at.count
