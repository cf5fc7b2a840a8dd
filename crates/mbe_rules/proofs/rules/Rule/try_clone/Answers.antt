use Rattle.std.proofs.Common.{rules}
use Rattle.mbe_rules.proofs.rules.Rule.try_clone.Goals as goal

pub returns : goal.returns
returns c = search rules
