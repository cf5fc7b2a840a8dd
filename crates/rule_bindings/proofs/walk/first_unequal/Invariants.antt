-- The first in what is left is the first in all.
use Rattle.std.proofs.Common.{◌≡◌, reverse}
use Rattle.mbe_rules.specs.Ops.{items_of}
use Rattle.mbe_matcher.specs.Bound.{map_of}
use Rattle.rule_bindings.specs.Notes.{first_unequal}
use Rattle.rule_bindings.specs.Walks.{left_in, weight_of_all}
use Rattle.rule_bindings.proofs.walk.first_unequal.Given as given

abbrev pub invariant-loop-task : given.invariant-loop-task
invariant-loop-task l =
    left_in (map_of l.bindings) (reverse l.walk.tasks.items) l.walk.rounds.items
    ≡ first_unequal (map_of l.bindings) (items_of l.template)

abbrev pub decreases-loop-task : given.decreases-loop-task
decreases-loop-task l = weight_of_all l.walk.tasks.items
