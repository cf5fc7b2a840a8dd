use Rattle.std.proofs.Common.{rules}
use Rattle.mbe_rules.proofs.expand_error.ExpandErrorPartialEq.eq.Goals as goal

pub returns : goal.returns
returns c = search rules
