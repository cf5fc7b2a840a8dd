use Rattle.std.proofs.Common.{sym, ap, ◌∙◌, refl, ◌++◌, arith}
use Rattle.mbe_matcher.specs.Places.{place_of}
use Rattle.mbe_matcher.specs.Settled.{planned}
use Rattle.mbe_matcher.specs.Threads.{moves_of, state_of}
use Rattle.mbe_matcher.specs.Waiting.{empties_at}
use Rattle.mbe_matcher.proofs.TaskLemmas.{plans, some-tasks}
use Rattle.mbe_matcher.proofs.DueLemmas.{ended-waits, goes-on, same-leads}
use Rattle.mbe_matcher.proofs.matcher.Settled.go_on.Goals as goal

pub returns-then-has_ended-clause-all : goal.returns-then-has_ended-clause-all
returns-then-has_ended-clause-all g c = λ pattern all h.
    let gr = g.G.FragmentGrammar.answer c.args.grammar.now in
    let p = place_of c.args.place.now in
    let s = c.args.self.now in
    same-leads gr pattern p all _ c.push.new.self.items s.seen s.seen s.tasks.items s.tasks.items c.in_ok-push.ensures.items refl refl
    (ended-waits gr pattern p all s.waiting.items s.seen s.tasks.items c.args.thread (sym c.if-has_ended.true ∙ c.has_ended.ensures) h)

pub returns-clause-all : goal.returns-clause-all
returns-clause-all g c = λ pattern all h.
    let gr = g.G.FragmentGrammar.answer c.args.grammar.now in
    let p = place_of c.args.place.now in
    let s = c.args.self.now in
    c.in_ok-take.ensures.all gr pattern p all
    (same-leads gr pattern p all s.waiting.items c.plan.new.self.waiting.items s.seen c.plan.new.self.seen
    ((s.tasks.items ++ planned c.in_ok-first.second) ++ planned c.in_ok-first.first) (c.plan.new.self.tasks.items ++ planned c.in_ok-first.first)
    c.in_ok-plan.ensures.waiting c.in_ok-plan.ensures.seen (ap (λ ts. ts ++ planned c.in_ok-first.first) c.in_ok-plan.ensures.tasks)
    (goes-on gr pattern p all s.waiting.items s.seen s.tasks.items c.args.thread c.in_ok-first.first c.in_ok-first.second
    (sym c.if-has_ended.false ∙ c.has_ended.ensures) c.in_ok-first.ensures h))

pub returns-then-has_ended-clause-fewer : goal.returns-then-has_ended-clause-fewer
returns-then-has_ended-clause-fewer g c =
    omega (arith, some-tasks (empties_at (state_of c.args.thread (place_of c.args.place.now))))

pub returns-clause-tasks : goal.returns-clause-tasks
returns-clause-tasks g c =
    let gr = g.G.FragmentGrammar.answer c.args.grammar.now in
    let p = place_of c.args.place.now in
    c.in_ok-take.ensures.tasks p
    (plans gr p (moves_of c.args.thread.moves) (state_of c.args.thread p) c.args.self.now.tasks.items (c.plan.new.self.tasks.items ++ planned c.in_ok-first.first) c.in_ok-first.first c.in_ok-first.second
    c.in_ok-first.ensures c.requires.good c.requires.tasks
    (ap (λ ts. ts ++ planned c.in_ok-first.first) c.in_ok-plan.ensures.tasks)).0

pub returns-clause-fewer : goal.returns-clause-fewer
returns-clause-fewer g c =
    let gr = g.G.FragmentGrammar.answer c.args.grammar.now in
    let p = place_of c.args.place.now in
    let all = plans gr p (moves_of c.args.thread.moves) (state_of c.args.thread p) c.args.self.now.tasks.items (c.plan.new.self.tasks.items ++ planned c.in_ok-first.first) c.in_ok-first.first c.in_ok-first.second
    c.in_ok-first.ensures c.requires.good c.requires.tasks
    (ap (λ ts. ts ++ planned c.in_ok-first.first) c.in_ok-plan.ensures.tasks) in
    omega (arith, all.1, c.in_ok-take.ensures.fewer p)
