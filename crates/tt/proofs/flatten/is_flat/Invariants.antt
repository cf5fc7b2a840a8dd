use Rattle.std.proofs.Common.{◌≤◌, length, drop}
use Rattle.tt_data.specs.Forest.{IsPreorder}
use Rattle.tt.proofs.flatten.is_flat.Given as goal

-- what has been passed, from the end on, holds trees
abbrev pub invariant-loop-at : goal.invariant-loop-at
invariant-loop-at l = (l.at ≤ length l.tts) × IsPreorder (drop l.at l.tts)

abbrev pub decreases-loop-at : goal.decreases-loop-at
decreases-loop-at l = l.at
