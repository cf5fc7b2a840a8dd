-- One reference has been added for each value so far.
use Rattle.std.proofs.Common.{◌≡◌, ◌+◌, length}
use Rattle.mbe_transcriber.proofs.metavar_expr.add_all.Given as goal

abbrev pub invariant-loop-value : goal.invariant-loop-value
invariant-loop-value l = length l.found.items ≡ length l.initial.found.items + l.value-index
