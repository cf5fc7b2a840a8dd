use Rattle.std.proofs.Common.{rules}
use Rattle.tt_data.proofs.tree.Subtree.usize_len.Goals as goal

pub returns : goal.returns
returns c = search rules
