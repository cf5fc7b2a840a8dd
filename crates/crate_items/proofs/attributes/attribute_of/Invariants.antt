-- The attributes that are left decide.
use Rattle.std.proofs.Common.{◌≡◌}
use Rattle.cfg_options.specs.Options.{options_of}
use Rattle.tt_data.specs.Forest.{size}
use Rattle.crate_items.specs.Attributes.{attribute_of}
use Rattle.crate_items.proofs.attributes.attribute_of.Given as goal

abbrev pub invariant-loop-inner : goal.invariant-loop-inner
invariant-loop-inner l =
    attribute_of (options_of l.options) l.word l.rest
    ≡ attribute_of (options_of l.options) l.word l.piece

abbrev pub decreases-loop-inner : goal.decreases-loop-inner
decreases-loop-inner l = size l.rest
