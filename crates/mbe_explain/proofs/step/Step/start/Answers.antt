use Rattle.std.proofs.Common.{ap, []}
use Rattle.tt_data.specs.Forest.{empty}
use Rattle.mbe_matcher.specs.Units as u
use Rattle.mbe_explain.specs.Levels.{marks_in}
use Rattle.mbe_explain.proofs.step.Step.start.Goals as goal

pub invariant_of-result : goal.invariant_of-result
invariant_of-result c = record { inside = ap marks_in (c.start-thread.ensures.state (u.place empty [])) }
