use Rattle.std.proofs.Common.{◌≡◌, ◌++◌, rules}
use Rattle.tt_data.proofs.LiteralLemmas.{inside, cut}
use Rattle.tt_data.proofs.leaf.Literal.new.Goals as goal

pub invariant_of-result : goal.invariant_of-result
invariant_of-result c =
    let whole : c.in_ok-new.field-0 ≡ c.args.text.now ++ c.args.suffix.now = search rules in
    inside _ _ _ whole c.utf8.suffix

pub returns-clause-literal : goal.returns-clause-literal
returns-clause-literal c =
    let whole : c.in_ok-new.field-0 ≡ c.args.text.now ++ c.args.suffix.now = search rules in
    cut _ _ _ whole c.args.kind c.args.span
