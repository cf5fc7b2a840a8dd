-- The thread was reached from the first one.
use Rattle.mbe_matcher.specs.Places.{place_of}
use Rattle.mbe_matcher.specs.Threads.{moves_of, state_of}
use Rattle.mbe_matcher.specs.Units.{left}
use Rattle.mbe_matcher.specs.Ways.{Follows}
use Rattle.mbe_matcher.proofs.thread.Thread.go_alone.Given as goal

abbrev pub invariant-loop-now : goal.invariant-loop-now
invariant-loop-now g l =
    Follows (g.G.FragmentGrammar.answer l.grammar) (moves_of l.self.moves) (state_of l.self (place_of l.initial.place)) (moves_of l.now.moves) (state_of l.now (place_of l.place))

abbrev pub decreases-loop-now : goal.decreases-loop-now
decreases-loop-now g l = left (place_of l.place)
