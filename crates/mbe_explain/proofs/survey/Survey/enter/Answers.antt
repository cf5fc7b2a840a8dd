use Rattle.std.proofs.Common.{sym, subst, ◌∙◌, [], ◌∷◌, ◌++◌, arith}
use Rattle.mbe_matcher.specs.Places.{place_of}
use Rattle.mbe_matcher.specs.Threads.{state_of}
use Rattle.mbe_matcher.specs.Waiting.{empties_at}
use Rattle.mbe_matcher.proofs.TaskLemmas.{some-tasks}
use Rattle.mbe_explain.specs.Surveys.{Leads, waits_of}
use Rattle.mbe_explain.specs.declared.survey.Task.TheVariants.{GoOn}
use Rattle.mbe_explain.proofs.CountLemmas.{noted}
use Rattle.mbe_explain.proofs.SurveyLemmas.{is-noted, third-left}
use Rattle.mbe_explain.proofs.survey.Survey.enter.Goals as goal

pub returns-then-was_settled_twice-clause-all : goal.returns-then-was_settled_twice-clause-all
returns-then-was_settled_twice-clause-all g c = λ pattern all h.
    let gr = g.G.FragmentGrammar.answer c.args.grammar.now in
    let p = place_of c.args.place.now in
    let s = c.args.self.now in
    third-left gr pattern p all (waits_of p s.waiting.items) s.seen s.tasks.items c.args.step c.requires.here
    (sym c.if-was_settled_twice.true ∙ c.was_settled_twice.ensures) h

pub returns-clause-all : goal.returns-clause-all
returns-clause-all g c = λ pattern all h.
    let gr = g.G.FragmentGrammar.answer c.args.grammar.now in
    let p = place_of c.args.place.now in
    let s = c.args.self.now in
    c.in_ok-go_on.ensures.all pattern all
    (subst (λ ts. Leads gr pattern p all (waits_of p s.waiting.items) s.seen (ts ++ (GoOn c.args.step ∷ []))) (sym c.in_ok-push.ensures.items)
    (is-noted gr pattern p all (waits_of p s.waiting.items) s.seen s.tasks.items c.args.step c.was_settled-twice.result c.requires.here
    c.was_settled-twice.ensures h))

pub returns-then-was_settled_twice-clause-fewer : goal.returns-then-was_settled_twice-clause-fewer
returns-then-was_settled_twice-clause-fewer g c =
    omega (arith, some-tasks (empties_at (state_of c.args.step.thread (place_of c.args.place.now))))

pub go_on-requires-clause-tasks : goal.go_on-requires-clause-tasks
go_on-requires-clause-tasks g c =
    (noted (place_of c.args.place.now) c.args.self.now.tasks.items c.push.new.self.items _ c.in_ok-push.ensures.items c.requires.tasks).0

pub returns-clause-fewer : goal.returns-clause-fewer
returns-clause-fewer g c =
    let n = noted (place_of c.args.place.now) c.args.self.now.tasks.items c.push.new.self.items _ c.in_ok-push.ensures.items c.requires.tasks in
    omega (arith, n.1, c.in_ok-go_on.ensures.fewer)
