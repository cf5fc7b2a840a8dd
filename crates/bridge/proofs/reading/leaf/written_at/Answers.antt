use Rattle.std.proofs.Common.{rules}
use Rattle.bridge.proofs.reading.leaf.written_at.Goals as goal

pub returns : goal.returns
returns c = search rules
