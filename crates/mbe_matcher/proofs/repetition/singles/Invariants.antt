-- Each tree so far is an iteration by itself.
use Rattle.tt_data.specs.Forest.{Forest}
use Rattle.mbe_matcher.specs.Rounds.{AreSingle}
use Rattle.mbe_matcher.specs.Units as u
use Rattle.std.proofs.Common.{[]}
use Rattle.mbe_matcher.proofs.repetition.singles.Given as goal

abbrev pub invariant-loop-kind : goal.invariant-loop-kind
invariant-loop-kind g l = (ts : Forest) × AreSingle (g.G.FragmentGrammar.answer l.grammar) l.kind l.trees ts l.rest

abbrev pub decreases-loop-kind : goal.decreases-loop-kind
decreases-loop-kind g l = u.left (u.place l.rest [])
