-- A thread that is not noted makes two tasks fewer, and one that is pruned makes none.
use Rattle.std.proofs.Common.{sym, ◌∙◌, arith}
use Rattle.mbe_matcher.specs.Places.{place_of}
use Rattle.mbe_matcher.proofs.DueLemmas.{stuck-left}
use Rattle.mbe_matcher.proofs.matcher.Settled.go_on_twice.Goals as goal

pub returns-then-is_stuck-clause-all : goal.returns-then-is_stuck-clause-all
returns-then-is_stuck-clause-all g c = λ pattern all h.
    let s = c.args.self.now in
    stuck-left (g.G.FragmentGrammar.answer c.args.grammar.now) pattern (place_of c.args.place.now) all s.waiting.items s.seen s.tasks.items c.args.thread
    (sym c.if-is_stuck.true ∙ c.is_stuck.ensures) h

pub returns-clause-fewer : goal.returns-clause-fewer
returns-clause-fewer g c = omega (arith, c.in_ok-go_on.ensures.fewer)
