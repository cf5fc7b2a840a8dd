use Rattle.std.proofs.Common.{sym, ap, ◌∙◌, suc}
use Rattle.mbe_rules.specs.Equality.{heads_of, inside_of}
use Rattle.mbe_rules.proofs.CountLemmas.{count_op, count_ops, count-Repeat, count-Subtree}
use Rattle.mbe_rules.proofs.EqualityLemmas.{inside-Repeat, inside-Subtree}
use Rattle.mbe_rules.proofs.equality.inside.Goals as goal

pub returns-in-Repeat-clause-same : goal.returns-in-Repeat-clause-same
returns-in-Repeat-clause-same c =
    ap heads_of c.deref.ensures.value ∙ sym (ap inside_of c.in-Repeat.is ∙ inside-Repeat c.in-Repeat.tokens c.in-Repeat.separator c.in-Repeat.kind)

pub returns-in-Repeat-clause-fewer : goal.returns-in-Repeat-clause-fewer
returns-in-Repeat-clause-fewer c =
    ap count_op c.in-Repeat.is ∙ count-Repeat c.in-Repeat.tokens c.in-Repeat.separator c.in-Repeat.kind
    ∙ ap (λ os. suc (count_ops os)) (sym c.deref.ensures.value)

pub returns-in-Subtree-clause-same : goal.returns-in-Subtree-clause-same
returns-in-Subtree-clause-same c =
    ap heads_of c.deref-in-Subtree.ensures.value ∙ sym (ap inside_of c.in-Subtree.is ∙ inside-Subtree c.in-Subtree.tokens c.in-Subtree.delimiter)

pub returns-in-Subtree-clause-fewer : goal.returns-in-Subtree-clause-fewer
returns-in-Subtree-clause-fewer c =
    ap count_op c.in-Subtree.is ∙ count-Subtree c.in-Subtree.tokens c.in-Subtree.delimiter
    ∙ ap (λ os. suc (count_ops os)) (sym c.deref-in-Subtree.ensures.value)
