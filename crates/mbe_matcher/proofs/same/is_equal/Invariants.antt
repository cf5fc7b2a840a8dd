-- The bytes passed so far are equal.
use Rattle.std.proofs.Common.{◌≡◌, take}
use Rattle.mbe_matcher.proofs.same.is_equal.Given as goal

abbrev pub invariant-loop-i : goal.invariant-loop-i
invariant-loop-i l = take l.i l.first ≡ take l.i l.second
