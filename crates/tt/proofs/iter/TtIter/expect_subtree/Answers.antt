use Rattle.std.proofs.Common.{rules}
use Rattle.tt.proofs.iter.TtIter.expect_subtree.Goals as goal

pub returns : goal.returns
returns c = search rules
