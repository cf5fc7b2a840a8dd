use Rattle.std.proofs.Common.{rules}
use Rattle.bridge.proofs.reading.leaf.name_in.Goals as goal

pub returns-in-No : goal.returns-in-No
returns-in-No c = search rules

pub returns-in-Yes : goal.returns-in-Yes
returns-in-Yes c = search rules
