-- The remaining iterations give what all gave at first.
use Rattle.std.proofs.Common.{◌≡◌}
use Rattle.tt_data.specs.Forest.{size}
use Rattle.mbe_matcher.specs.Collecting.{collected_of, after_all}
use Rattle.mbe_matcher.specs.Threads.{rounds_of}
use Rattle.mbe_matcher.proofs.bind.Collected.begin_each.Given as goal

abbrev pub invariant-loop-rest : goal.invariant-loop-rest
invariant-loop-rest l =
    after_all (rounds_of l.name l.kind l.rest) (collected_of l.self) ≡ after_all (rounds_of l.initial.name l.initial.kind l.initial.rest) (collected_of l.initial.self)

abbrev pub decreases-loop-rest : goal.decreases-loop-rest
decreases-loop-rest l = size l.rest
