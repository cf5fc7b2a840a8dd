use Rattle.std.proofs.Common.{ap, sym, ◌∙◌, suc}
use Rattle.mbe_rules.specs.Items.{variables}
use Rattle.mbe_rules.specs.Ops.{items_of}
use Rattle.mbe_rules.proofs.CountLemmas.{count_op, count_ops, count-Repeat, count-Subtree}
use Rattle.mbe_matcher.proofs.SkippedLemmas.{variables-Repeat, variables-Subtree}
use Rattle.mbe_matcher.proofs.bind.inside.Goals as goal

pub returns-in-Repeat-clause-names : goal.returns-in-Repeat-clause-names
returns-in-Repeat-clause-names c =
    ap (λ os. variables (items_of os)) c.deref.ensures.value
    ∙ variables-Repeat c.args.op.now c.in-Repeat.tokens c.in-Repeat.separator c.in-Repeat.kind c.in-Repeat.is

pub returns-in-Repeat-clause-fewer : goal.returns-in-Repeat-clause-fewer
returns-in-Repeat-clause-fewer c =
    ap count_op c.in-Repeat.is ∙ count-Repeat c.in-Repeat.tokens c.in-Repeat.separator c.in-Repeat.kind
    ∙ ap (λ os. suc (count_ops os)) (sym c.deref.ensures.value)

pub returns-in-Subtree-clause-names : goal.returns-in-Subtree-clause-names
returns-in-Subtree-clause-names c =
    ap (λ os. variables (items_of os)) c.deref-in-Subtree.ensures.value
    ∙ variables-Subtree c.args.op.now c.in-Subtree.tokens c.in-Subtree.delimiter c.in-Subtree.is

pub returns-in-Subtree-clause-fewer : goal.returns-in-Subtree-clause-fewer
returns-in-Subtree-clause-fewer c =
    ap count_op c.in-Subtree.is ∙ count-Subtree c.in-Subtree.tokens c.in-Subtree.delimiter
    ∙ ap (λ os. suc (count_ops os)) (sym c.deref-in-Subtree.ensures.value)
