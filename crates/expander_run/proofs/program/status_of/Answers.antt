use Rattle.std.proofs.Common.{rules}
use Rattle.expander_run.proofs.program.status_of.Goals as goal

pub returns-in-Unread : goal.returns-in-Unread
returns-in-Unread c = search rules

pub returns-then-is_empty : goal.returns-then-is_empty
returns-then-is_empty c = search rules

pub returns-else-is_empty : goal.returns-else-is_empty
returns-else-is_empty c = search rules
