use Rattle.std.proofs.Common.{ap, ◌∙◌}
use Rattle.mbe_rules.proofs.CountLemmas.{count_op, count-Repeat, count-Subtree}
use Rattle.mbe_rules.proofs.parser.Op.into_inner.Goals as goal

pub returns-in-Repeat-clause-fewer : goal.returns-in-Repeat-clause-fewer
returns-in-Repeat-clause-fewer c =
    ap count_op c.in-Repeat.is ∙ count-Repeat c.in-Repeat.tokens c.in-Repeat._separator c.in-Repeat._kind

pub returns-in-Subtree-clause-fewer : goal.returns-in-Subtree-clause-fewer
returns-in-Subtree-clause-fewer c = ap count_op c.in-Subtree.is ∙ count-Subtree c.in-Subtree.tokens c.in-Subtree._delimiter
