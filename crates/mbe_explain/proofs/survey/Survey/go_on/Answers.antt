use Rattle.std.proofs.Common.{sym, ap, ◌∙◌, ◌++◌, arith}
use Rattle.mbe_matcher.specs.Places.{place_of}
use Rattle.mbe_matcher.specs.Threads.{moves_of, state_of}
use Rattle.mbe_matcher.specs.Waiting.{empties_at}
use Rattle.mbe_matcher.proofs.TaskLemmas.{some-tasks}
use Rattle.mbe_explain.specs.Surveys.{planned}
use Rattle.mbe_explain.proofs.CountLemmas.{plans}
use Rattle.mbe_explain.proofs.SurveyLemmas.{end-waits, goes-on, same-leads}
use Rattle.mbe_explain.proofs.survey.Survey.go_on.Goals as goal

pub returns-then-has_ended-clause-all : goal.returns-then-has_ended-clause-all
returns-then-has_ended-clause-all g c = λ pattern all h.
    let gr = g.G.FragmentGrammar.answer c.args.grammar.now in
    let s = c.args.self.now in
    end-waits gr pattern (place_of c.args.place.now) all s.waiting.items c.push.new.self.items c.args.step c.ended.result s.seen s.tasks.items
    c.in_ok-push.ensures.items c.requires.here c.ended.ensures (sym c.if-has_ended.true ∙ c.has_ended.ensures) h

pub returns-then-has_ended-clause-fewer : goal.returns-then-has_ended-clause-fewer
returns-then-has_ended-clause-fewer g c =
    omega (arith, some-tasks (empties_at (state_of c.args.step.thread (place_of c.args.place.now))))

pub returns-clause-all : goal.returns-clause-all
returns-clause-all g c = λ pattern all h.
    let gr = g.G.FragmentGrammar.answer c.args.grammar.now in
    let p = place_of c.args.place.now in
    let s = c.args.self.now in
    let first = c.in_ok-first.first in
    let second = c.in_ok-first.second in
    let x = c.plan-2.new.self in
    same-leads gr pattern p all s.waiting.items x.waiting.items s.seen x.seen ((s.tasks.items ++ planned second) ++ planned first) x.tasks.items
    (c.in_ok-plan-2.ensures.waiting ∙ c.in_ok-plan.ensures.waiting) (c.in_ok-plan-2.ensures.seen ∙ c.in_ok-plan.ensures.seen)
    (c.in_ok-plan-2.ensures.tasks ∙ ap (λ ts. ts ++ planned first) c.in_ok-plan.ensures.tasks)
    (goes-on gr pattern p all s.waiting.items s.seen s.tasks.items c.args.step first second c.requires.here
    (sym c.if-has_ended.false ∙ c.has_ended.ensures) c.in_ok-first.ensures h)

pub returns-clause-tasks : goal.returns-clause-tasks
returns-clause-tasks g c =
    let gr = g.G.FragmentGrammar.answer c.args.grammar.now in
    let p = place_of c.args.place.now in
    let t = c.args.step.thread in
    (plans gr p (moves_of t.moves) (state_of t p) c.args.self.now.tasks.items c.plan-2.new.self.tasks.items c.in_ok-first.first c.in_ok-first.second
    c.in_ok-first.ensures c.requires.good c.requires.tasks
    (c.in_ok-plan-2.ensures.tasks ∙ ap (λ ts. ts ++ planned c.in_ok-first.first) c.in_ok-plan.ensures.tasks)).0

pub returns-clause-fewer : goal.returns-clause-fewer
returns-clause-fewer g c =
    let gr = g.G.FragmentGrammar.answer c.args.grammar.now in
    let p = place_of c.args.place.now in
    let t = c.args.step.thread in
    (plans gr p (moves_of t.moves) (state_of t p) c.args.self.now.tasks.items c.plan-2.new.self.tasks.items c.in_ok-first.first c.in_ok-first.second
    c.in_ok-first.ensures c.requires.good c.requires.tasks
    (c.in_ok-plan-2.ensures.tasks ∙ ap (λ ts. ts ++ planned c.in_ok-first.first) c.in_ok-plan.ensures.tasks)).1
