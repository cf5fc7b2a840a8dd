-- Another iteration is the only way on, again and again.
use Rattle.mbe_matcher.specs.Ways.{stays}
use Rattle.mbe_matcher.proofs.thread.Thread.pass_rounds.Goals as goal

pub returns-in_default : goal.returns-in_default
returns-in_default g c = stays

pub loop-more-init : goal.loop-more-init
loop-more-init g c = (c.in-Some.ensures, stays)
