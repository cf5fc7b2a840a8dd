use Rattle.std.proofs.Common.{◌∙◌, ap, sym}
use Rattle.expander_model.specs.Definitions.{Definition}
use Rattle.expander_sources.proofs.AddingLemmas.{adds_no_arguments, adds_no_macro}
use Rattle.expander_sources.proofs.rooting.push_arguments.Goals as goal

pub returns-then-not-definition-clause-ok : goal.returns-then-not-definition-clause-ok
returns-then-not-definition-clause-ok c =
    adds_no_macro c.args.tree.now.tree c.args.root.now c.args.definition.now c.args.at
    (ap (λ (d : Definition). d.is_macro) (sym c.definition.view_is) ∙ c.if-not-definition.true)

pub returns-in-None-clause-ok : goal.returns-in-None-clause-ok
returns-in-None-clause-ok c =
    adds_no_arguments c.args.tree.now.tree c.args.root.now c.args.definition.now c.args.at
    (ap (λ (d : Definition). d.arguments) (sym c.definition.view_is) ∙ c.in-None.is)
