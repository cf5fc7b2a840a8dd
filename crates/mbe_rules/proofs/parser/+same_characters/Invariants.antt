use Rattle.std.proofs.Common.{length}
use Rattle.mbe_rules.proofs.parser.+same_characters.Given as goal

abbrev pub decreases-same_characters : goal.decreases-same_characters
decreases-same_characters l = length l.first.now
