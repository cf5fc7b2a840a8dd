use Rattle.bridge.proofs.WrittenLemmas.{written}
use Rattle.bridge.proofs.laws.tokens_are_written.Goals as goal

pub returns : goal.returns
returns c = written
