-- The remaining entries give what all gave at first.
use Rattle.std.proofs.Common.{◌≡◌, length, reverse}
use Rattle.mbe_matcher.specs.Bindings.{bind_round}
use Rattle.mbe_matcher.specs.Bound.{entries_of, map_of}
use Rattle.mbe_matcher.proofs.bindings.Bindings.bind_round.Given as goal

abbrev pub invariant-loop-bound : goal.invariant-loop-bound
invariant-loop-bound l =
    bind_round l.number (entries_of (reverse l.round.bound.items)) (map_of l.self)
    ≡ bind_round l.number (entries_of (reverse l.initial.round.bound.items)) (map_of l.initial.self)

abbrev pub decreases-loop-bound : goal.decreases-loop-bound
decreases-loop-bound l = length l.round.bound.items
