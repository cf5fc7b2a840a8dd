use Rattle.std.proofs.Common.{rules}
use Rattle.tt.proofs.iter.TtIter.first_group.Goals as goal

pub returns : goal.returns
returns c = search rules

pub returns-in_err-head : goal.returns-in_err-head
returns-in_err-head c = search rules
