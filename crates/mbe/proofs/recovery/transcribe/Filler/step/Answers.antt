use Rattle.mbe.proofs.FailureTaskLemmas.{items-fewer}
use Rattle.mbe.proofs.recovery.transcribe.Filler.step.Goals as goal

pub returns-in_ok-plan-in-Items : goal.returns-in_ok-plan-in-Items
returns-in_ok-plan-in-Items g c =
    items-fewer c.put_op.result c.args.left.now.tasks.items c.plan.new.self.tasks.items c.put_op.new.left.tasks.items c.args.task c.in-Items.ops c.in-Some.rest
    c.in-Some.first.now c.in-Items.is c.in-Some.ensures.cases.0 c.in_ok-plan-in-Items.ensures c.put_op.ensures
