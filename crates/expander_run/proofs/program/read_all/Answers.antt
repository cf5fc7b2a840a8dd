use Rattle.std.proofs.Common.{rules}
use Rattle.expander_run.proofs.program.read_all.Goals as goal

pub returns-clause-read : goal.returns-clause-read
returns-clause-read c = search rules

pub returns-in-Err-clause-read : goal.returns-in-Err-clause-read
returns-in-Err-clause-read c = search rules

pub returns-in-Ok-eq0-clause-read : goal.returns-in-Ok-eq0-clause-read
returns-in-Ok-eq0-clause-read c = search rules

pub returns-then-is_err-clause-read : goal.returns-then-is_err-clause-read
returns-then-is_err-clause-read c = search rules
