use Rattle.std.proofs.Common.{◌≡◌}
use Rattle.mbe_matcher.specs.Threads.{frames_in, same_marks}
use Rattle.mbe_matcher.proofs.same_state.are_same_marks.Given as goal

abbrev pub invariant-loop-one : goal.invariant-loop-one
invariant-loop-one l = same_marks (frames_in l.one) (frames_in l.other) ≡ same_marks (frames_in l.first) (frames_in l.second)
