use Rattle.std.proofs.Common.{rules}
use Rattle.tt.proofs.iter.savepoint.TtIterSavepoint.remaining.Goals as goal

pub returns : goal.returns
returns c = search rules
