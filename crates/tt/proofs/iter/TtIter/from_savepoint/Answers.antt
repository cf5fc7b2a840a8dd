use Rattle.std.proofs.Common.{rules}
use Rattle.tt.proofs.iter.TtIter.from_savepoint.Goals as goal

pub returns : goal.returns
returns c = search rules
