use Rattle.std.proofs.Common.{rules}
use Rattle.expander_run.proofs.program.put_reply.Goals as goal

pub returns-in-Read : goal.returns-in-Read
returns-in-Read c = search rules

pub returns-in-Unread : goal.returns-in-Unread
returns-in-Unread c = search rules
