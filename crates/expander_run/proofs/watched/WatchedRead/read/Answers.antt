use Rattle.std.proofs.Common.{rules}
use Rattle.expander_run.proofs.watched.WatchedRead.read.Goals as goal

pub returns-else-is_err : goal.returns-else-is_err
returns-else-is_err c = search rules

pub returns-then-is_err-clause-bound : goal.returns-then-is_err-clause-bound
returns-then-is_err-clause-bound c = search rules

pub returns-then-is_err-clause-bytes : goal.returns-then-is_err-clause-bytes
returns-then-is_err-clause-bytes c = search rules
