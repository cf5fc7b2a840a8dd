use Rattle.std.proofs.Common.{Some, refl}
use Rattle.expander_run.proofs.RunLemmas.{runs_broken_off, runs_stopped}
use Rattle.expander_run.specs.declared.stop.Stop.TheVariants.{WriteFailed}
use Rattle.expander_run.proofs.program.run_after.Goals as goal

pub returns-in-Ok-clause-runs : goal.returns-in-Ok-clause-runs
returns-in-Ok-clause-runs g c = (
  Some WriteFailed,
  runs_broken_off _ _ _ _ _ _ _ _ _ _ _ _ _ _ c.in-Ok.ensures.replied c.in-Ok.ensures.read c.put_reply.ensures c.if-put_reply.false
      _ c.stop_line.ensures c.tell-else-put_reply.ensures.told,
)

pub returns-clause-runs : goal.returns-clause-runs
returns-clause-runs g c = (
  Some c.in-Err.stop,
  runs_stopped _ _ _ _ _ _ _ _ _ _ _ c.in-Err.ensures.stopped c.requires.writer_fresh refl _ c.stop_line-in-Err.ensures c.tell-in-Err.ensures.told,
)
