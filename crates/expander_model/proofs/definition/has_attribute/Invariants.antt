use Rattle.std.proofs.Common.{◌≡◌}
use Rattle.tt_data.specs.Forest.{size}
use Rattle.expander_model.specs.Definitions.{has_attribute}
use Rattle.expander_model.proofs.definition.has_attribute.Given as goal

abbrev pub invariant-loop-inner : goal.invariant-loop-inner
invariant-loop-inner l = has_attribute l.word l.rest ≡ has_attribute l.word l.piece

abbrev pub decreases-loop-inner : goal.decreases-loop-inner
decreases-loop-inner l = size l.rest
