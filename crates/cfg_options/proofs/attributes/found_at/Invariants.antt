use Rattle.std.proofs.Common.{◌≡◌}
use Rattle.cfg_options.specs.Attributes.{and_also, found_at, found_waiting, tokens_waiting}
use Rattle.cfg_options.proofs.attributes.found_at.Given as goal

abbrev pub invariant-loop-so_far : goal.invariant-loop-so_far
invariant-loop-so_far l =
    and_also l.found (found_waiting l.options l.waiting) ≡ found_at l.options l.attribute

abbrev pub decreases-loop-so_far : goal.decreases-loop-so_far
decreases-loop-so_far l = tokens_waiting l.waiting
