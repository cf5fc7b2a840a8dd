use Rattle.std.proofs.Common.{◌-◌, ap, ◌∙◌, arith}
use Rattle.rust_grammar.specs.Table.{comes_at}
use Rattle.rust_grammar.proofs.StepLemmas.{rule_from}
use Rattle.rust_grammar.proofs.interpreter.come_of_levels.Goals as goal

pub returns : goal.returns
returns c =
    let some_left = c.if-levels-eq0.false in
    c.come_of.ensures
    ∙ ap (comes_at c.args.edition (c.args.levels - 1) c.root_of.result) c.copied.ensures
    ∙ rule_from c.args.edition c.args.levels (c.args.levels - 1) c.root_of.result c.args.rule c.args.trees.now (omega (arith, some_left)) c.root_of.ensures.same
