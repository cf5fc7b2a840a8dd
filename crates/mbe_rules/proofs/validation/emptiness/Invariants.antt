use Rattle.std.proofs.Common.{◌≡◌}
use Rattle.mbe_rules.specs.Items.{can_match_nothing, has_empty_round}
use Rattle.mbe_rules.specs.Ops.{items_of}
use Rattle.mbe_rules.specs.Walks.{whole_nothing, whole_endless, work}
use Rattle.mbe_rules.proofs.validation.emptiness.Given as goal

abbrev pub invariant-loop-walk : goal.invariant-loop-walk
invariant-loop-walk l =
    (whole_nothing l.walk ≡ can_match_nothing (items_of l.ops)) × (whole_endless l.walk ≡ has_empty_round (items_of l.ops))

abbrev pub decreases-loop-walk : goal.decreases-loop-walk
decreases-loop-walk l = work l.walk
