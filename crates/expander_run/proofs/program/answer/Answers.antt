use Rattle.std.proofs.Common.{rules}
use Rattle.expander_run.proofs.RunLemmas.{needs_ids}
use Rattle.expander_run.proofs.program.answer.Goals as goal

pub returns-in_err-reply-clause-numbers : goal.returns-in_err-reply-clause-numbers
returns-in_err-reply-clause-numbers c = search (rules, needs_ids)
