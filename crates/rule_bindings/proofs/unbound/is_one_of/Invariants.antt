-- The name is one of those that are left, if it is one of all.
use Rattle.std.proofs.Common.{◌≡◌, drop, map}
use Rattle.mbe_rules.specs.Text.{is_one_of}
use Rattle.rule_bindings.proofs.unbound.is_one_of.Given as given

abbrev pub invariant-loop-known : given.invariant-loop-known
invariant-loop-known l =
    is_one_of (map (λ n. n.now) (drop l.known-index l.names)) l.name
    ≡ is_one_of (map (λ n. n.now) l.names) l.name
