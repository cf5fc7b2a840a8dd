use Rattle.std.proofs.Common.{◌∙◌, subst, arith}
use Rattle.std.proofs.lemmas.List.{nil_from_length}
use Rattle.mbe_matcher.specs.Places.{place_of}
use Rattle.mbe_explain.specs.Searches.{Searched, come_to, entered_of, open_of}
use Rattle.mbe_explain.specs.Wants.{wants_of}
use Rattle.mbe_explain.proofs.CountLemmas.{last-end, one-more}
use Rattle.mbe_explain.proofs.VisitLemmas.{search-begins, search-ends}
use Rattle.mbe_explain.proofs.WantedLemmas.{come-sound}
use Rattle.mbe_explain.proofs.search.wanted_at.Goals as goal

pub loop-task-init : goal.loop-task-init
loop-task-init g c = record {
  searched =
      let p = place_of c.args.place.now in
      let x = c.plan_entries.new.self in
      search-begins (g.G.FragmentGrammar.answer c.args.grammar.now) (come_to p c.args.steps.now) p x.seen x.tasks.items c.new-wanted.result.items
      (c.in_ok-plan_entries.ensures.seen ∙ c.new-survey.ensures.seen) (c.in_ok-plan_entries.ensures.due p) c.new-wanted.ensures.items;
  tasks = c.in_ok-plan_entries.ensures.tasks c.requires.0 (place_of c.args.place.now) c.requires.1;
}

pub look-requires-clause-task : goal.look-requires-clause-task
look-requires-clause-task g c =
    (last-end (place_of c.args.place.now) c.pop.new.self.items c.loop-task.survey.tasks.items c.in-Some.task c.in-Some.ensures.items c.loop-task.invariant.tasks).1

pub look-requires-clause-tasks : goal.look-requires-clause-tasks
look-requires-clause-tasks g c =
    (last-end (place_of c.args.place.now) c.pop.new.self.items c.loop-task.survey.tasks.items c.in-Some.task c.in-Some.ensures.items c.loop-task.invariant.tasks).0

pub loop-task-preserved : goal.loop-task-preserved
loop-task-preserved g c = record {
  searched =
      let p = place_of c.args.place.now in
      let gr = g.G.FragmentGrammar.answer c.args.grammar.now in
      let entries = come_to p c.args.steps.now in
      c.in_ok-look.ensures.searched c.requires.0 entries (λ x a. (come-sound c.requires.0 p c.args.steps.now c.requires.1 x a).1)
      (subst (λ ts. Searched gr entries (entered_of p c.loop-task.survey.seen) (open_of p ts) (wants_of c.loop-task.wanted.items)) c.in-Some.ensures.items
      c.loop-task.invariant.searched);
  tasks = c.in_ok-look.ensures.tasks;
}

pub loop-task-smaller : goal.loop-task-smaller
loop-task-smaller g c =
    let same = one-more (place_of c.args.place.now) c.pop.new.self.items c.loop-task.survey.tasks.items c.in-Some.task c.in-Some.ensures.items in
    omega (arith, same, c.in_ok-look.ensures.fewer)

pub returns : goal.returns
returns g c = λ w.
    let p = place_of c.args.place.now in
    search-ends (g.G.FragmentGrammar.answer c.args.grammar.now) (come_to p c.args.steps.now) p (entered_of p c.loop-task.survey.seen) c.loop-task.survey.tasks.items
    (wants_of c.loop-task.wanted.items)
    (nil_from_length c.loop-task.survey.tasks.items (omega (arith, c.in_default.ensures.cases.0, c.loop-task.survey.tasks.ok.0))) c.loop-task.invariant.searched w
