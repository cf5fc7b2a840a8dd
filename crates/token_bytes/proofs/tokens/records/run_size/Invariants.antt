use Rattle.std.proofs.Common.{◌≡◌, ◌+◌, length}
use Rattle.token_bytes.specs.Runs.{AreDecoded, run_size}
use Rattle.token_bytes.proofs.tokens.records.run_size.Given as goal

-- the records that are left, and the bytes of those passed
abbrev pub invariant-loop-left : goal.invariant-loop-left
invariant-loop-left l = AreDecoded l.left l._table l.rest
    × (l.size + run_size l.left l.rest ≡ run_size l.fn.count l.fn.bytes)
    × (l.size + length l.rest ≡ length l.fn.bytes)

abbrev pub decreases-loop-left : goal.decreases-loop-left
decreases-loop-left l = l.left
