use Rattle.std.proofs.Common.{rules}
use Rattle.tt.proofs.iter.expect.is_among.Goals as goal

pub returns : goal.returns
returns c = search rules
