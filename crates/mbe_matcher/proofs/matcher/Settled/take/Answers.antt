-- None is planned where there is no choice.
use Rattle.std.proofs.Common.{ap, subst, ◌∙◌, ◌++◌, append-nil, arith}
use Rattle.mbe_matcher.specs.Settled.{HasEnd, Leads, planned, tasks_of_all}
use Rattle.mbe_matcher.specs.Waiting.{Each}
use Rattle.mbe_matcher.proofs.matcher.Settled.take.Goals as goal

pub returns-in-None-clause-all : goal.returns-in-None-clause-all
returns-in-None-clause-all c = λ gr pattern p all h.
    let s = c.args.self.now in
    subst (λ ts. Leads gr pattern p all s.waiting.items s.seen ts) (ap (λ o. s.tasks.items ++ planned o) c.in-None.is ∙ append-nil s.tasks.items) h

pub returns-in_ok-take_one-in-Some-clause-all : goal.returns-in_ok-take_one-in-Some-clause-all
returns-in_ok-take_one-in-Some-clause-all c = λ gr pattern p all h.
    let s = c.args.self.now in
    c.in_ok-take_one-in-Some.ensures.all gr pattern p all (subst (λ o. Leads gr pattern p all s.waiting.items s.seen (s.tasks.items ++ planned o)) c.in-Some.is h)

pub returns-in-None-clause-tasks : goal.returns-in-None-clause-tasks
returns-in-None-clause-tasks c = λ p h.
    let s = c.args.self.now in
    subst (Each (HasEnd p)) (ap (λ o. s.tasks.items ++ planned o) c.in-None.is ∙ append-nil s.tasks.items) h

pub returns-in_ok-take_one-in-Some-clause-tasks : goal.returns-in_ok-take_one-in-Some-clause-tasks
returns-in_ok-take_one-in-Some-clause-tasks c = λ p h.
    c.in_ok-take_one-in-Some.ensures.tasks p (subst (λ o. Each (HasEnd p) (c.args.self.now.tasks.items ++ planned o)) c.in-Some.is h)

pub returns-in-None-clause-fewer : goal.returns-in-None-clause-fewer
returns-in-None-clause-fewer c = λ p.
    let s = c.args.self.now in
    omega (arith, ap (tasks_of_all p) (ap (λ o. s.tasks.items ++ planned o) c.in-None.is ∙ append-nil s.tasks.items))

pub returns-in_ok-take_one-in-Some-clause-fewer : goal.returns-in_ok-take_one-in-Some-clause-fewer
returns-in_ok-take_one-in-Some-clause-fewer c = λ p.
    omega (arith, c.in_ok-take_one-in-Some.ensures.fewer p, ap (λ o. tasks_of_all p (c.args.self.now.tasks.items ++ planned o)) c.in-Some.is)
