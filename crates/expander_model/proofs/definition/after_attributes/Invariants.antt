use Rattle.std.proofs.Common.{◌≡◌}
use Rattle.tt_data.specs.Forest.{size}
use Rattle.expander_model.specs.Definitions.{after_attributes}
use Rattle.expander_model.proofs.definition.after_attributes.Given as goal

abbrev pub invariant-loop-after : goal.invariant-loop-after
invariant-loop-after l = after_attributes l.rest ≡ after_attributes l.piece

abbrev pub decreases-loop-after : goal.decreases-loop-after
decreases-loop-after l = size l.rest
