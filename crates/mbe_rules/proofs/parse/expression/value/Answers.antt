use Rattle.std.proofs.Common.{ap, ◌∙◌}
use Rattle.tt_data.specs.Forest.{leaf}
use Rattle.mbe_rules.specs.Trees.{signs}
use Rattle.mbe_rules.proofs.ExpressionLemmas.{value_part}
use Rattle.mbe_rules.proofs.parse.expression.value.Goals as goal

pub returns-in-Some-Leaf-Ident-clause-part : goal.returns-in-Some-Leaf-Ident-clause-part
returns-in-Some-Leaf-Ident-clause-part c =
    let first = rw c.in-Some-Leaf-Ident.field-0-is at c.in-Some-Leaf-Ident.ensures.steps in
    let next = first ∙ ap (λ l. leaf l c.next.new.self) c.in-Some-Leaf-Ident.field-0-0-is in
    value_part c.args.sign.char c.in-Some-Leaf-Ident.name.sym (signs c.args.rest.now) (signs c.next.new.self) (ap signs next)
    c.if-sign-eq36.true
