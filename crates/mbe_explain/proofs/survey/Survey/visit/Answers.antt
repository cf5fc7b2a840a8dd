use Rattle.std.proofs.Common.{sym, ap, ◌∙◌, ◌++◌, arith, false}
use Rattle.mbe_matcher.specs.Places.{place_of}
use Rattle.mbe_matcher.specs.Threads.{moves_of, state_of}
use Rattle.mbe_matcher.specs.Waiting.{empties_at}
use Rattle.mbe_matcher.proofs.TaskLemmas.{some-tasks}
use Rattle.mbe_explain.specs.Surveys.{planned}
use Rattle.mbe_explain.specs.Wants.{wants_of}
use Rattle.mbe_explain.proofs.CountLemmas.{plans}
use Rattle.mbe_explain.proofs.VisitLemmas.{passes, visits}
use Rattle.mbe_explain.proofs.survey.Survey.visit.Goals as goal

pub returns-then-was_settled-clause-searched : goal.returns-then-was_settled-clause-searched
returns-then-was_settled-clause-searched g c = λ pattern entries f h.
    let gr = g.G.FragmentGrammar.answer c.args.grammar.now in
    let s = c.args.self.now in
    passes gr entries (place_of c.args.place.now) pattern f c.args.step.thread s.seen s.tasks.items (wants_of c.args.wanted.now.items)
    (sym c.if-was_settled.true ∙ c.was_settled.ensures) h

pub returns-then-was_settled-clause-fewer : goal.returns-then-was_settled-clause-fewer
returns-then-was_settled-clause-fewer g c =
    omega (arith, some-tasks (empties_at (state_of c.args.step.thread (place_of c.args.place.now))))

pub returns-clause-searched : goal.returns-clause-searched
returns-clause-searched g c = λ pattern entries f h.
    let gr = g.G.FragmentGrammar.answer c.args.grammar.now in
    let p = place_of c.args.place.now in
    let s = c.args.self.now in
    let first = c.in_ok-first.first in
    let second = c.in_ok-first.second in
    let x = c.plan-2.new.self in
    visits gr entries p c.args.step.thread s.seen x.seen s.tasks.items x.tasks.items (wants_of c.args.wanted.now.items) (wants_of c.tell.new.wanted.items)
    first second c.wanted.result false
    (c.in_ok-plan-2.ensures.seen ∙ c.in_ok-plan.ensures.seen ∙ c.in_ok-push.ensures.ok)
    (c.in_ok-plan-2.ensures.tasks ∙ ap (λ ts. ts ++ planned first) c.in_ok-plan.ensures.tasks)
    c.in_ok-tell.ensures (c.wanted.ensures p) c.in_ok-first.ensures h

pub returns-clause-tasks : goal.returns-clause-tasks
returns-clause-tasks g c =
    let gr = g.G.FragmentGrammar.answer c.args.grammar.now in
    let p = place_of c.args.place.now in
    let t = c.args.step.thread in
    (plans gr p (moves_of t.moves) (state_of t p) c.args.self.now.tasks.items c.plan-2.new.self.tasks.items c.in_ok-first.first c.in_ok-first.second
    c.in_ok-first.ensures c.requires.good c.requires.tasks
    (c.in_ok-plan-2.ensures.tasks ∙ ap (λ ts. ts ++ planned c.in_ok-first.first) c.in_ok-plan.ensures.tasks)).0

pub returns-clause-fewer : goal.returns-clause-fewer
returns-clause-fewer g c =
    let gr = g.G.FragmentGrammar.answer c.args.grammar.now in
    let p = place_of c.args.place.now in
    let t = c.args.step.thread in
    let all = plans gr p (moves_of t.moves) (state_of t p) c.args.self.now.tasks.items c.plan-2.new.self.tasks.items c.in_ok-first.first c.in_ok-first.second
    c.in_ok-first.ensures c.requires.good c.requires.tasks
    (c.in_ok-plan-2.ensures.tasks ∙ ap (λ ts. ts ++ planned c.in_ok-first.first) c.in_ok-plan.ensures.tasks) in
    omega (arith, all.1)
