use Rattle.std.proofs.Common.{rules}
use Rattle.mbe_rules.proofs.parse.definition.after_delimiter.Goals as goal

pub returns : goal.returns
returns c = search rules

pub returns-in-None : goal.returns-in-None
returns-in-None c = search rules
