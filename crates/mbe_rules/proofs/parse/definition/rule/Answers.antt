use Rattle.std.proofs.Common.{rules}
use Rattle.mbe_rules.proofs.parse.definition.rule.Goals as goal

pub returns-in-Err : goal.returns-in-Err
returns-in-Err c = search rules

pub returns-in-Ok-2 : goal.returns-in-Ok-2
returns-in-Ok-2 c = search rules

pub returns-in_err-e : goal.returns-in_err-e
returns-in_err-e c = search rules

pub returns-in-Err-2 : goal.returns-in-Err-2
returns-in-Err-2 c = search rules
