use Rattle.std.proofs.Common.{◌<◌, ◌+◌, subst}
use Rattle.std.specs.Prelude.{OnOk}
use Rattle.mbe.specs.FailureTasks.{tasks_of_all}
use Rattle.mbe_transcriber.proofs.FillTaskLemmas.{sub-work, rep-work}
use Rattle.mbe.proofs.recovery.transcribe.Filler.put_op.Goals as goal

pub returns-in-Repeat : goal.returns-in-Repeat
returns-in-Repeat g c =
    subst (λ n. OnOk c.begin.result (tasks_of_all c.begin.new.left.tasks.items < tasks_of_all c.args.left.now.tasks.items + n))
    (rep-work c.in-Repeat.tokens c.in-Repeat.separator c.in-Repeat.kind c.args.op.now c.deref.result.now c.in-Repeat.is c.deref.ensures.value)
    c.begin.ensures

pub returns-in-Subtree : goal.returns-in-Subtree
returns-in-Subtree g c =
    subst (λ n. OnOk c.enter.result (tasks_of_all c.enter.new.left.tasks.items < tasks_of_all c.args.left.now.tasks.items + n))
    (sub-work c.in-Subtree.tokens c.in-Subtree.delimiter c.args.op.now c.deref-in-Subtree.result.now c.in-Subtree.is c.deref-in-Subtree.ensures.value)
    c.enter.ensures
