use Rattle.std.proofs.Common.{rules}
use Rattle.tt.proofs.iter.TtIter.flat_advance_to.Goals as goal

pub returns : goal.returns
returns c = search rules
