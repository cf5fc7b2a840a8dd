use Rattle.std.proofs.Common.{rules}
use Rattle.expander_model.proofs.fault.place.Goals as goal

pub returns-in-Some : goal.returns-in-Some
returns-in-Some c = search rules

pub returns-in-Leaf : goal.returns-in-Leaf
returns-in-Leaf c = search rules

pub returns-in-Opens : goal.returns-in-Opens
returns-in-Opens c = search rules
