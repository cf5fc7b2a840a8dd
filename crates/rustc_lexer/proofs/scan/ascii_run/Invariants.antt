use Rattle.std.proofs.Common.{◌≡◌, ◌+◌, ◌-◌, ◌≤◌, length, drop}
use Rattle.std.specs.List.{prefix_len}
use Rattle.rustc_lexer.specs.Character.{ascii_part}
use Rattle.rustc_lexer.proofs.scan.ascii_run.Given as goal

abbrev pub invariant-loop-i : goal.invariant-loop-i
invariant-loop-i g l =
    let passes = ascii_part g.T.CharTest.passes in
    (l.i ≤ length l.bytes) × (prefix_len passes l.bytes ≡ l.i + prefix_len passes (drop l.i l.bytes))

abbrev pub decreases-loop-i : goal.decreases-loop-i
decreases-loop-i g l = length l.bytes - l.i
