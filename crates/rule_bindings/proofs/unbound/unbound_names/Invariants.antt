-- The names so far and those that are left give all that are told of.
use Rattle.std.proofs.Common.{◌≡◌, length, map}
use Rattle.std.specs.Prelude.{fold}
use Rattle.mbe_rules.specs.Ops.{items_of}
use Rattle.mbe_matcher.specs.Bound.{map_of}
use Rattle.rule_bindings.specs.Names.{names_ahead}
use Rattle.rule_bindings.specs.Notes.{unbound_names, with_unbound}
use Rattle.rule_bindings.proofs.unbound.unbound_names.Given as given

abbrev pub invariant-loop-ahead : given.invariant-loop-ahead
invariant-loop-ahead l =
    fold (with_unbound (map_of l.bindings)) (map (λ n. n.now) l.names.items)
    (names_ahead l.ahead)
    ≡ unbound_names (map_of l.bindings) (items_of l.template)

abbrev pub decreases-loop-ahead : given.decreases-loop-ahead
decreases-loop-ahead l = length (names_ahead l.ahead)
