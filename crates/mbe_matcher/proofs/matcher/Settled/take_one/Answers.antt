-- A choice that consumes something waits, and any other is planned.
use Rattle.std.proofs.Common.{sym, ap, subst, refl, [], ◌∷◌, ◌++◌, arith}
use Rattle.mbe_matcher.specs.Settled.{HasEnd, tasks_of_all}
use Rattle.mbe_matcher.specs.Waiting.{Each}
use Rattle.mbe_matcher.specs.declared.matcher.SettleTask.TheVariants.{GoOn}
use Rattle.mbe_matcher.proofs.DueLemmas.{taken-waits, same-leads}
use Rattle.mbe_matcher.proofs.TaskLemmas.{each-last, one-more}
use Rattle.mbe_matcher.proofs.matcher.Settled.take_one.Goals as goal

pub returns-in_ok-push-in-Some-clause-all : goal.returns-in_ok-push-in-Some-clause-all
returns-in_ok-push-in-Some-clause-all c = λ gr pattern p all h.
    let s = c.args.self.now in
    same-leads gr pattern p all _ c.push.new.self.items s.seen s.seen s.tasks.items s.tasks.items c.in_ok-push-in-Some.ensures.items refl refl
    (taken-waits gr pattern p all s.waiting.items s.seen s.tasks.items c.args.choice c.in-Some.taken c.in-Some.is h)

pub returns-in_ok-push-in-None-clause-all : goal.returns-in_ok-push-in-None-clause-all
returns-in_ok-push-in-None-clause-all c = λ gr pattern p all h.
    let s = c.args.self.now in
    same-leads gr pattern p all s.waiting.items s.waiting.items s.seen s.seen (s.tasks.items ++ (GoOn c.args.choice ∷ [])) c.push-in-None.new.self.items
    refl refl c.in_ok-push-in-None.ensures.items h

pub returns-in_ok-push-in-Some-clause-tasks : goal.returns-in_ok-push-in-Some-clause-tasks
returns-in_ok-push-in-Some-clause-tasks c = λ p h. (each-last (HasEnd p) c.args.self.now.tasks.items (GoOn c.args.choice) h).0

pub returns-in_ok-push-in-None-clause-tasks : goal.returns-in_ok-push-in-None-clause-tasks
returns-in_ok-push-in-None-clause-tasks c = λ p h. subst (Each (HasEnd p)) (sym c.in_ok-push-in-None.ensures.items) h

pub returns-in_ok-push-in-Some-clause-fewer : goal.returns-in_ok-push-in-Some-clause-fewer
returns-in_ok-push-in-Some-clause-fewer c = λ p. omega (arith, one-more p c.args.self.now.tasks.items (GoOn c.args.choice))

pub returns-in_ok-push-in-None-clause-fewer : goal.returns-in_ok-push-in-None-clause-fewer
returns-in_ok-push-in-None-clause-fewer c = λ p. omega (arith, ap (tasks_of_all p) c.in_ok-push-in-None.ensures.items)
