use Rattle.std.proofs.Common.{◌≡◌, drop, map}
use Rattle.mbe_rules.specs.Ops.{rule_of}
use Rattle.mbe_rules.specs.Styles.{bits_of}
use Rattle.mbe.specs.Macros.{styles_in, styles_of}
use Rattle.mbe.proofs.parse.styles.Given as goal

abbrev pub invariant-loop-rule : goal.invariant-loop-rule
invariant-loop-rule l = styles_in (bits_of l.styles) (map rule_of (drop l.rule-index l.more)) ≡ styles_of (map rule_of l.list)
