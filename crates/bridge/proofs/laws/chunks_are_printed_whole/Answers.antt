use Rattle.bridge.proofs.PrintedChunkLemmas.{whole_part}
use Rattle.bridge.proofs.laws.chunks_are_printed_whole.Goals as goal

pub returns : goal.returns
returns c = whole_part
