-- The value gives the same now as at first.
use Rattle.std.proofs.Common.{◌≡◌, ◌-◌, length}
use Rattle.mbe_matcher.specs.Bindings as b
use Rattle.mbe_matcher.specs.Bindings.{value_put}
use Rattle.mbe_matcher.specs.Bound.{values_of}
use Rattle.mbe_matcher.proofs.bindings.fill_up.Given as goal

abbrev pub invariant-loop-values : goal.invariant-loop-values
invariant-loop-values l = (c : b.Binding) → value_put l.round c (values_of l.values.items) ≡ value_put l.round c (values_of l.initial.values.items)

abbrev pub decreases-loop-values : goal.decreases-loop-values
decreases-loop-values l = l.round - length l.values.items
