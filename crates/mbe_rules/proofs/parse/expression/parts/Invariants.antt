use Rattle.std.proofs.Common.{◌≡◌, map}
use Rattle.tt_data.specs.Forest.{size}
use Rattle.mbe_rules.specs.Expressions.{parts_in}
use Rattle.mbe_rules.specs.Ops.{part_of}
use Rattle.mbe_rules.specs.Trees.{signs}
use Rattle.mbe_rules.proofs.ExpressionLemmas.{before}
use Rattle.mbe_rules.proofs.parse.expression.parts.Given as goal

abbrev pub invariant-loop-rest : goal.invariant-loop-rest
invariant-loop-rest l = parts_in (signs l.fn.trees) ≡ before (map part_of l.parts.items) (parts_in (signs l.rest))

abbrev pub decreases-loop-rest : goal.decreases-loop-rest
decreases-loop-rest l = size l.rest
