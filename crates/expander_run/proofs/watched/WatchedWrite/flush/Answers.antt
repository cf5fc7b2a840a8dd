use Rattle.std.proofs.Common.{rules}
use Rattle.expander_run.proofs.watched.WatchedWrite.flush.Goals as goal

pub returns-then-not-self-clause-bytes : goal.returns-then-not-self-clause-bytes
returns-then-not-self-clause-bytes c = search rules

pub returns-else-not-self-clause-bytes : goal.returns-else-not-self-clause-bytes
returns-else-not-self-clause-bytes c = search rules
