-- The thread leads to the same as the first one.
use Rattle.mbe_matcher.specs.Places.{place_of}
use Rattle.mbe_matcher.specs.Threads.{moves_of, state_of}
use Rattle.mbe_matcher.specs.Waiting.{empties_at}
use Rattle.mbe_matcher.specs.Ways.{LeadsAs}
use Rattle.mbe_matcher.proofs.thread.Thread.way.Given as goal

abbrev pub invariant-loop-now : goal.invariant-loop-now
invariant-loop-now g l =
    let p = place_of l.place in
    LeadsAs (g.G.FragmentGrammar.answer l.grammar) (moves_of l.self.moves) (state_of l.self p) (moves_of l.now.moves) (state_of l.now p)

abbrev pub decreases-loop-now : goal.decreases-loop-now
decreases-loop-now g l = empties_at (state_of l.now (place_of l.place))
