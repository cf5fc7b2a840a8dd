use Rattle.std.proofs.Common.{◌≡◌, drop}
use Rattle.std.specs.List.{flat_map}
use Rattle.mbe_matcher.specs.Paths.{clash}
use Rattle.mbe_matcher.specs.Threads.{takings_of}
use Rattle.mbe_matcher.proofs.ClashPassLemmas.{clash_after}
use Rattle.mbe_matcher.proofs.matcher.has_clash.Given as goal

abbrev pub invariant-loop-w : goal.invariant-loop-w
invariant-loop-w l = clash (flat_map takings_of l.waiting) ≡ clash_after l.any l.fragment (flat_map takings_of (drop l.w-index l.waiting))
