-- The values so far are those of the names so far.
use Rattle.std.proofs.Common.{◌≡◌, take}
use Rattle.mbe_matcher.specs.Bound.{entries_of}
use Rattle.rule_bindings.specs.BoundValues.{map_values}
use Rattle.rule_bindings.specs.Given.{all_given}
use Rattle.rule_bindings.proofs.flatten.flatten.Given as given

abbrev pub invariant-loop-bound : given.invariant-loop-bound
invariant-loop-bound l =
    all_given l.found.items
    ≡ map_values (entries_of (take l.bound-index l.entries))
