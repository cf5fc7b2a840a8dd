use Rattle.std.proofs.Common.{sym, subst, ◌∙◌, [], ◌∷◌, ◌++◌, arith}
use Rattle.mbe_matcher.specs.Places.{place_of}
use Rattle.mbe_matcher.specs.Settled.{Leads}
use Rattle.mbe_matcher.specs.Threads.{state_of}
use Rattle.mbe_matcher.specs.Waiting.{empties_at}
use Rattle.mbe_matcher.specs.declared.matcher.SettleTask.TheVariants.{GoOn}
use Rattle.mbe_matcher.proofs.TaskLemmas.{noted, some-tasks}
use Rattle.mbe_matcher.proofs.DueLemmas.{as_choice, few-left, few-noted}
use Rattle.mbe_matcher.proofs.matcher.Settled.go_on_noted.Goals as goal

pub returns-then-was_settled_twice-clause-all : goal.returns-then-was_settled_twice-clause-all
returns-then-was_settled_twice-clause-all g c = λ pattern all h.
    let gr = g.G.FragmentGrammar.answer c.args.grammar.now in
    let s = c.args.self.now in
    few-left gr pattern (place_of c.args.place.now) all s.waiting.items s.seen s.tasks.items c.args.thread
    (sym c.if-was_settled_twice.true ∙ c.was_settled_twice.ensures) h

pub returns-clause-all : goal.returns-clause-all
returns-clause-all g c = λ pattern all h.
    let gr = g.G.FragmentGrammar.answer c.args.grammar.now in
    let p = place_of c.args.place.now in
    let s = c.args.self.now in
    c.in_ok-go_on.ensures.all pattern all
    (subst (λ ts. Leads gr pattern p all s.waiting.items s.seen (ts ++ (GoOn (as_choice c.args.thread) ∷ []))) (sym c.in_ok-push.ensures.items)
    (few-noted gr pattern p all s.waiting.items s.seen s.tasks.items c.args.thread c.was_settled-twice.result
    c.was_settled-twice.ensures h))

pub returns-then-was_settled_twice-clause-fewer : goal.returns-then-was_settled_twice-clause-fewer
returns-then-was_settled_twice-clause-fewer g c =
    omega (arith, some-tasks (empties_at (state_of c.args.thread (place_of c.args.place.now))))

pub go_on-requires-clause-tasks : goal.go_on-requires-clause-tasks
go_on-requires-clause-tasks g c =
    (noted (place_of c.args.place.now) c.args.self.now.tasks.items c.push.new.self.items _ c.in_ok-push.ensures.items c.requires.tasks).0

pub returns-clause-fewer : goal.returns-clause-fewer
returns-clause-fewer g c =
    let n = noted (place_of c.args.place.now) c.args.self.now.tasks.items c.push.new.self.items _ c.in_ok-push.ensures.items c.requires.tasks in
    omega (arith, n.1, c.in_ok-go_on.ensures.fewer)
