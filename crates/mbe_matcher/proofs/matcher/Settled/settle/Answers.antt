use Rattle.std.proofs.Common.{sym, ap, subst, ◌∙◌, ◌∷◌, [], ◌++◌, append-nil, arith}
use Rattle.mbe_matcher.specs.Places.{place_of}
use Rattle.mbe_matcher.specs.Settled.{HasEnd, Leads, tasks_of_all}
use Rattle.mbe_matcher.specs.Waiting.{Each}
use Rattle.mbe_matcher.specs.declared.matcher.SettleTask.TheVariants.{GoOn}
use Rattle.mbe_matcher.proofs.DueLemmas.{as_choice}
use Rattle.mbe_matcher.proofs.TaskLemmas.{each-last, one-more}
use Rattle.mbe_matcher.proofs.matcher.Settled.settle.Goals as goal

pub go_on-requires-clause-tasks : goal.go_on-requires-clause-tasks
go_on-requires-clause-tasks g c = subst (Each (HasEnd (place_of c.args.place.now))) (sym c.requires.tasks) tt

pub loop-task-init : goal.loop-task-init
loop-task-init g c = record {
  all = λ pattern all h.
      let gr = g.G.FragmentGrammar.answer c.args.grammar.now in
      let s = c.args.self.now in
      c.in_ok-go_on.ensures.all pattern all
      (subst (λ ts. Leads gr pattern (place_of c.args.place.now) all s.waiting.items s.seen (ts ++ (GoOn (as_choice c.args.thread) ∷ []))) (sym c.requires.tasks) h);
  tasks = c.in_ok-go_on.ensures.tasks;
}

pub step-requires-clause-task : goal.step-requires-clause-task
step-requires-clause-task g c =
    (each-last (HasEnd (place_of c.args.place.now)) c.pop.new.self.items c.in-Some.task
    (subst (Each (HasEnd (place_of c.args.place.now))) c.in-Some.ensures.items c.loop-task.invariant.tasks)).1

pub step-requires-clause-tasks : goal.step-requires-clause-tasks
step-requires-clause-tasks g c =
    (each-last (HasEnd (place_of c.args.place.now)) c.pop.new.self.items c.in-Some.task
    (subst (Each (HasEnd (place_of c.args.place.now))) c.in-Some.ensures.items c.loop-task.invariant.tasks)).0

pub loop-task-smaller : goal.loop-task-smaller
loop-task-smaller g c =
    let p = place_of c.args.place.now in
    let same = ap (tasks_of_all p) c.in-Some.ensures.items ∙ one-more p c.pop.new.self.items c.in-Some.task in
    omega (arith, same, c.in_ok-step.ensures.fewer)

pub loop-task-preserved : goal.loop-task-preserved
loop-task-preserved g c = record {
  all = λ pattern all h.
      let gr = g.G.FragmentGrammar.answer c.args.grammar.now in
      c.in_ok-step.ensures.all pattern all
      (subst (λ ts. Leads gr pattern (place_of c.args.place.now) all c.loop-task.self.waiting.items c.loop-task.self.seen ts) c.in-Some.ensures.items
      (c.loop-task.invariant.all pattern all h));
  tasks = c.in_ok-step.ensures.tasks;
}

pub returns-clause-all : goal.returns-clause-all
returns-clause-all g c = λ pattern all h.
    let gr = g.G.FragmentGrammar.answer c.args.grammar.now in
    subst (λ ts. Leads gr pattern (place_of c.args.place.now) all c.loop-task.self.waiting.items c.loop-task.self.seen ts)
    (c.in_default.ensures.items ∙ append-nil c.pop.new.self.items) (c.loop-task.invariant.all pattern all h)
