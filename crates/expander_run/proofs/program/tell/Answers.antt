use Rattle.expander_run.proofs.RunLemmas.{told_by_put}
use Rattle.expander_run.proofs.program.tell.Goals as goal

pub returns-then-not-is_empty-clause-told : goal.returns-then-not-is_empty-clause-told
returns-then-not-is_empty-clause-told g c = told_by_put _ _ _ _ _ _ c.as_bytes.ensures.value c.put.ensures
