use Rattle.std.proofs.Common.{◌≡◌}
use Rattle.tt_data.specs.Forest.{size}
use Rattle.cfg_options.specs.Attributes.{and_also, found_before}
use Rattle.cfg_options.proofs.attributes.found_before.Given as goal

abbrev pub invariant-loop-inner : goal.invariant-loop-inner
invariant-loop-inner l =
    found_before l.options l.piece ≡ and_also l.found (found_before l.options l.rest)

abbrev pub decreases-loop-inner : goal.decreases-loop-inner
decreases-loop-inner l = size l.rest
