use Rattle.std.proofs.Common.{sym, subst, ◌∙◌, ◌∷◌, [], ◌++◌, append-nil, arith}
use Rattle.mbe_matcher.specs.Places.{place_of}
use Rattle.mbe_matcher.specs.Waiting.{Each}
use Rattle.mbe_explain.specs.Surveys.{HasEnd, Leads, waits_of}
use Rattle.mbe_explain.specs.declared.survey.Task.TheVariants.{GoOn}
use Rattle.mbe_explain.proofs.CountLemmas.{last-end, one-more}
use Rattle.mbe_explain.proofs.survey.Survey.settle.Goals as goal

pub enter-requires-clause-tasks : goal.enter-requires-clause-tasks
enter-requires-clause-tasks g c = subst (Each (HasEnd (place_of c.args.place.now))) (sym c.requires.tasks) tt

pub loop-task-init : goal.loop-task-init
loop-task-init g c = record {
  all = λ pattern all h.
      let gr = g.G.FragmentGrammar.answer c.args.grammar.now in
      let p = place_of c.args.place.now in
      let s = c.args.self.now in
      c.in_ok-enter.ensures.all pattern all
      (subst (λ ts. Leads gr pattern p all (waits_of p s.waiting.items) s.seen (ts ++ (GoOn c.args.step ∷ []))) (sym c.requires.tasks) h);
  tasks = c.in_ok-enter.ensures.tasks;
}

pub perform-requires-clause-task : goal.perform-requires-clause-task
perform-requires-clause-task g c =
    (last-end (place_of c.args.place.now) c.pop.new.self.items c.loop-task.self.tasks.items c.in-Some.task c.in-Some.ensures.items c.loop-task.invariant.tasks).1

pub perform-requires-clause-tasks : goal.perform-requires-clause-tasks
perform-requires-clause-tasks g c =
    (last-end (place_of c.args.place.now) c.pop.new.self.items c.loop-task.self.tasks.items c.in-Some.task c.in-Some.ensures.items c.loop-task.invariant.tasks).0

pub loop-task-smaller : goal.loop-task-smaller
loop-task-smaller g c =
    let same = one-more (place_of c.args.place.now) c.pop.new.self.items c.loop-task.self.tasks.items c.in-Some.task c.in-Some.ensures.items in
    omega (arith, same, c.in_ok-perform.ensures.fewer)

pub loop-task-preserved : goal.loop-task-preserved
loop-task-preserved g c = record {
  all = λ pattern all h.
      let gr = g.G.FragmentGrammar.answer c.args.grammar.now in
      let p = place_of c.args.place.now in
      let s = c.loop-task.self in
      c.in_ok-perform.ensures.all pattern all
      (subst (λ ts. Leads gr pattern p all (waits_of p s.waiting.items) s.seen ts) c.in-Some.ensures.items (c.loop-task.invariant.all pattern all h));
  tasks = c.in_ok-perform.ensures.tasks;
}

pub returns-clause-all : goal.returns-clause-all
returns-clause-all g c = λ pattern all h.
    let gr = g.G.FragmentGrammar.answer c.args.grammar.now in
    let p = place_of c.args.place.now in
    let s = c.loop-task.self in
    subst (λ ts. Leads gr pattern p all (waits_of p s.waiting.items) s.seen ts) (c.in_default.ensures.items ∙ append-nil c.pop.new.self.items)
    (c.loop-task.invariant.all pattern all h)
