use Rattle.bridge.proofs.ReadStepLemmas.{adds_nothing, no_trees}
use Rattle.bridge.proofs.reading.add_trees.Goals as goal

pub returns-in_default-clause-ok : goal.returns-in_default-clause-ok
returns-in_default-clause-ok c =
    adds_nothing c.args.builder.now.tree _
    (no_trees c.args.class c.args.text.now c.args.range c.args.next c.in_default.not-Name c.in_default.not-Mark c.in_default.not-QuotedName c.in_default.not-Doc c.in_default.not-Value)
