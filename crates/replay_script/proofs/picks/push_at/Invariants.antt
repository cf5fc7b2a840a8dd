use Rattle.std.proofs.Common.{drop}
use Rattle.replay_script.proofs.PushLemmas.{Pushes}
use Rattle.replay_script.proofs.picks.push_at.Given as goal

abbrev pub invariant-loop-i : goal.invariant-loop-i
invariant-loop-i l = Pushes l.source l.indices (drop l.i-index l.indices) l.fn.prelude l.prelude
