use Rattle.bridge.proofs.FrontLemmas.{reads_behind}
use Rattle.bridge.proofs.laws.reading_behind.Goals as goal

pub returns : goal.returns
returns c = reads_behind
