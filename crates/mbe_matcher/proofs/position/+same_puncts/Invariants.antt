use Rattle.std.proofs.Common.{length}
use Rattle.mbe_matcher.proofs.position.+same_puncts.Given as goal

abbrev pub decreases-same_puncts : goal.decreases-same_puncts
decreases-same_puncts l = length l.puncts.now
