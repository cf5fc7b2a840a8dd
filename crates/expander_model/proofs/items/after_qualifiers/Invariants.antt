use Rattle.std.proofs.Common.{◌≡◌}
use Rattle.tt_data.specs.Forest.{size}
use Rattle.expander_model.specs.WholeItems.{after_qualifiers}
use Rattle.expander_model.proofs.items.after_qualifiers.Given as goal

abbrev pub invariant-loop-leaf : goal.invariant-loop-leaf
invariant-loop-leaf l = after_qualifiers l.trees ≡ after_qualifiers l.rest

abbrev pub decreases-loop-leaf : goal.decreases-loop-leaf
decreases-loop-leaf l = size l.rest
