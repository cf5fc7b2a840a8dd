-- The thread has come by iterations of the metavariable, and can go on with another.
use Rattle.std.proofs.Common.{◌+◌, if◌then◌else◌}
use Rattle.mbe_matcher.specs.Going.{Goes, left_in}
use Rattle.mbe_matcher.specs.Places.{place_of}
use Rattle.mbe_matcher.specs.Threads.{moves_of, state_of}
use Rattle.mbe_matcher.proofs.thread.Thread.pass_rounds.Given as goal

abbrev pub invariant-loop-more : goal.invariant-loop-more
invariant-loop-more g l =
    Goes (g.G.FragmentGrammar.answer l.grammar) l.name l.kind (moves_of l.initial.self.moves) (state_of l.initial.self (place_of l.initial.place)) l.self l.place

abbrev pub decreases-loop-more : goal.decreases-loop-more
decreases-loop-more g l = left_in l.place + (if l.more then 1 else 0)
