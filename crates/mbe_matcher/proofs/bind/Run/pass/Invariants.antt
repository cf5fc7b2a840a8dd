-- The remaining trees give what all gave at first.
use Rattle.std.proofs.Common.{◌≡◌}
use Rattle.tt_data.specs.Forest.{size}
use Rattle.mbe_matcher.specs.Collecting.{run_of, run_through}
use Rattle.mbe_matcher.proofs.bind.Run.pass.Given as goal

abbrev pub invariant-loop-rest : goal.invariant-loop-rest
invariant-loop-rest l = run_through l.kind l.rest (run_of l.self) ≡ run_through l.initial.kind l.initial.rest (run_of l.initial.self)

abbrev pub decreases-loop-rest : goal.decreases-loop-rest
decreases-loop-rest l = size l.rest
