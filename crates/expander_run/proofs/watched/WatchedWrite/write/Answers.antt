use Rattle.std.proofs.Common.{rules}
use Rattle.expander_run.proofs.watched.WatchedWrite.write.Goals as goal

pub returns-in-Err : goal.returns-in-Err
returns-in-Err c = search rules

pub returns-else-taken-eq0 : goal.returns-else-taken-eq0
returns-else-taken-eq0 c = search rules

pub returns-then-not-is_empty : goal.returns-then-not-is_empty
returns-then-not-is_empty c = search rules
