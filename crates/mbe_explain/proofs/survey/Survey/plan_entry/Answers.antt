use Rattle.mbe_explain.proofs.VisitLemmas.{entry-due, entry-end, no-entry-due}
use Rattle.mbe_explain.proofs.survey.Survey.plan_entry.Goals as goal

pub returns-in-None-clause-due : goal.returns-in-None-clause-due
returns-in-None-clause-due c = λ p. no-entry-due p c.args.self.now.tasks.items c.args.step.now c.in-None.is

pub returns-in_ok-plan-in-Some-clause-due : goal.returns-in_ok-plan-in-Some-clause-due
returns-in_ok-plan-in-Some-clause-due c = λ p.
    entry-due p c.args.self.now.tasks.items c.plan.new.self.tasks.items c.args.step.now c.ended.result c.in-Some.field-0
    c.in_ok-plan-in-Some.ensures.tasks c.in-Some.is c.ended.ensures

pub returns-in_ok-plan-in-Some-clause-tasks : goal.returns-in_ok-plan-in-Some-clause-tasks
returns-in_ok-plan-in-Some-clause-tasks c = λ pattern p sound h.
    entry-end pattern p c.args.self.now.tasks.items c.plan.new.self.tasks.items c.args.step.now c.ended.result c.in-Some.field-0
    c.in_ok-plan-in-Some.ensures.tasks c.in-Some.is c.ended.ensures sound h
