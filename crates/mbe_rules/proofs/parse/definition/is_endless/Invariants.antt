use Rattle.std.proofs.Common.{◌≡◌, drop, map}
use Rattle.std.specs.List.{list_any}
use Rattle.mbe_rules.specs.Items.{has_empty_round}
use Rattle.mbe_rules.specs.Ops.{rule_of}
use Rattle.mbe_rules.proofs.parse.definition.is_endless.Given as goal

abbrev pub invariant-loop-rule : goal.invariant-loop-rule
invariant-loop-rule l =
    list_any (λ r. has_empty_round r.pattern) (map rule_of l.list)
    ≡ list_any (λ r. has_empty_round r.pattern) (map rule_of (drop l.rule-index l.list))
