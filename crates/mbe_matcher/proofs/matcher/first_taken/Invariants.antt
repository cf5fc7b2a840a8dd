use Rattle.std.proofs.Common.{◌≡◌, drop}
use Rattle.mbe_matcher.specs.Threads.{head_taken}
use Rattle.mbe_matcher.proofs.matcher.first_taken.Given as goal

abbrev pub invariant-loop-w : goal.invariant-loop-w
invariant-loop-w l = head_taken l.waiting ≡ head_taken (drop l.w-index l.waiting)
