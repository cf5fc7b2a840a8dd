use Rattle.std.proofs.Common.{take}
use Rattle.mbe_matcher.specs.SeenStates.{IsIndex, numbers_of}
use Rattle.mbe_matcher.proofs.seen_states.StateIndex.of.Given as goal

abbrev pub invariant-loop-one : goal.invariant-loop-one
invariant-loop-one l = IsIndex l.index (numbers_of (take l.one-index l.seen))
