-- The first of those that are left is the first of all.
use Rattle.std.proofs.Common.{◌≡◌, length}
use Rattle.mbe_rules.specs.Ops.{items_of}
use Rattle.mbe_matcher.specs.Bound.{map_of}
use Rattle.mbe_transcriber.specs.Filling.{names}
use Rattle.rule_bindings.specs.Names.{names_ahead}
use Rattle.rule_bindings.specs.Notes.{other_counted}
use Rattle.rule_bindings.proofs.unequal.other_counted.Given as given

abbrev pub invariant-loop-ahead : given.invariant-loop-ahead
invariant-loop-ahead l =
    other_counted (map_of l.bindings) l.rounds l.count (names_ahead l.ahead)
    ≡ other_counted (map_of l.bindings) l.rounds l.count (names (items_of l.ops))

abbrev pub decreases-loop-ahead : given.decreases-loop-ahead
decreases-loop-ahead l = length (names_ahead l.ahead)
