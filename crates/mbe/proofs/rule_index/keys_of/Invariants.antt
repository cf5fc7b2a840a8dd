use Rattle.std.proofs.Common.{◌≡◌, ◌++◌, drop, map}
use Rattle.mbe_rules.specs.Ops.{rule_of}
use Rattle.mbe.specs.Keys.{keys_of}
use Rattle.mbe.proofs.rule_index.keys_of.Given as goal

abbrev pub invariant-loop-rule : goal.invariant-loop-rule
invariant-loop-rule l = l.keys.items ++ keys_of (map rule_of (drop l.rule-index l.rules)) ≡ keys_of (map rule_of l.rules)
