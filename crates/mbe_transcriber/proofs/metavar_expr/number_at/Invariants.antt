-- The index among the iterations that are left is the index among all.
use Rattle.std.proofs.Common.{◌≡◌, length, reverse}
use Rattle.mbe_transcriber.specs.Filling.{number_at}
use Rattle.mbe_transcriber.proofs.metavar_expr.number_at.Given as goal

abbrev pub invariant-loop-number : goal.invariant-loop-number
invariant-loop-number l = number_at l.depth (reverse l.left) ≡ number_at l.initial.depth (reverse l.rounds)

abbrev pub decreases-loop-number : goal.decreases-loop-number
decreases-loop-number l = length l.left
