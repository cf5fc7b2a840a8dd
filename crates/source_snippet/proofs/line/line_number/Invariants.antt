use Rattle.std.proofs.Common.{◌≡◌, ◌+◌, ◌≤◌, count_by, take}
use Rattle.std.specs.Prelude.{◌==◌}
use Rattle.source_snippet.proofs.line.line_number.Given as goal

abbrev pub invariant-loop-byte : goal.invariant-loop-byte
invariant-loop-byte l =
    (l.number ≡ count_by (λ b. b == 10) (take l.byte-index l.byte-items) + 1) × (l.number ≤ l.byte-index + 1)
