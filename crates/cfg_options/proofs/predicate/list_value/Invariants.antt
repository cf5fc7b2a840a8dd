use Rattle.std.proofs.Common.{◌≡◌}
use Rattle.cfg_options.specs.OpenLists.{lists_value, value_under, weight}
use Rattle.cfg_options.specs.Parts.{open_value}
use Rattle.cfg_options.proofs.predicate.list_value.Given as goal

abbrev pub invariant-loop-more : goal.invariant-loop-more
invariant-loop-more l =
    lists_value (value_under l.options) l.lists ≡ open_value (value_under l.options) l.fn.list

abbrev pub decreases-loop-more : goal.decreases-loop-more
decreases-loop-more l = weight l.lists
