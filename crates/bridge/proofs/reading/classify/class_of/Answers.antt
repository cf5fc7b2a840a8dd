use Rattle.std.proofs.Common.{rules}
use Rattle.bridge.proofs.reading.classify.class_of.Goals as goal

pub returns-in-At : goal.returns-in-At
returns-in-At c = search rules

pub returns-in-Eq : goal.returns-in-Eq
returns-in-Eq c = search rules

pub returns-in-Lt : goal.returns-in-Lt
returns-in-Lt c = search rules

pub returns-in-Gt : goal.returns-in-Gt
returns-in-Gt c = search rules

pub returns-in-Or : goal.returns-in-Or
returns-in-Or c = search rules
