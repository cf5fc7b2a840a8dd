use Rattle.std.proofs.Common.{rules}
use Rattle.bridge.proofs.piece_tree.head.Goals as goal

pub returns : goal.returns
returns c = search rules
