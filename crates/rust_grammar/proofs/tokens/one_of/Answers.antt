use Rattle.std.proofs.Common.{sym, ◌∙◌, true, false}
use Rattle.rust_grammar.specs.Table.{set_texts}
use Rattle.rust_grammar.proofs.TableLemmas.{one-of}
use Rattle.rust_grammar.proofs.tokens.one_of.Goals as goal

pub returns-then-is_among : goal.returns-then-is_among
returns-then-is_among c =
    one-of c.args.edition c.operators_of.result.now (set_texts c.args.set) c.args.trees.now c.in_ok-operator.rest c.in_ok-operator.operator true
    c.operators_of.ensures (sym c.first_operator.ensures ∙ c.in_ok-operator.was) (sym c.is_among.ensures ∙ c.if-is_among.true)

pub returns-else-is_among : goal.returns-else-is_among
returns-else-is_among c =
    one-of c.args.edition c.operators_of.result.now (set_texts c.args.set) c.args.trees.now c.in_ok-operator.rest c.in_ok-operator.operator false
    c.operators_of.ensures (sym c.first_operator.ensures ∙ c.in_ok-operator.was) (sym c.is_among.ensures ∙ c.if-is_among.false)
