use Rattle.mbe_transcriber.proofs.MatchingLemmas.{the_reading-only}
use Rattle.mbe.proofs.laws.only_reading.Goals as goal

pub returns : goal.returns
returns c = the_reading-only
