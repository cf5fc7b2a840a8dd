use Rattle.mbe.specs.FailureTasks.{tasks_of_all}
use Rattle.mbe.proofs.recovery.transcribe.Filler.fill.Given as goal

abbrev pub decreases-loop-task : goal.decreases-loop-task
decreases-loop-task g l = tasks_of_all l.left.tasks.items
