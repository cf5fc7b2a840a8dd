use Rattle.std.proofs.Common.{◌<◌, ap, sym, ◌∙◌, subst}
use Rattle.rust_grammar.specs.Table.{expression_at}
use Rattle.rust_grammar.proofs.TableLemmas.{root-says, root-within, root-read}
use Rattle.rust_grammar.proofs.nodes.root_of.Goals as goal

pub returns-clause-same : goal.returns-clause-same
returns-clause-same c =
    ap expression_at (sym (root-read c.args.rule c.element.result c.element.ensures)) ∙ root-says c.args.rule c.requires

pub returns-clause-within : goal.returns-clause-within
returns-clause-within c =
    subst (λ n. n < 1564) (root-read c.args.rule c.element.result c.element.ensures) (root-within c.args.rule c.requires)
