use Rattle.std.proofs.Common.{◌≡◌, ◌+◌, ◌≤◌}
use Rattle.mbe_matcher.specs.Grammar.{reach}
use Rattle.mbe_matcher.proofs.PlaceLemmas.{further}
use Rattle.mbe_matcher.proofs.fragments.reached.Given as goal

abbrev pub invariant-loop-left : goal.invariant-loop-left
invariant-loop-left l = (further l.count (reach l.rest l.left) ≡ reach l.trees l.number) × (l.count + l.left ≤ l.number)

abbrev pub decreases-loop-left : goal.decreases-loop-left
decreases-loop-left l = l.left
