use Rattle.std.proofs.Common.{◌∙◌, Some, ap, option_map}
use Rattle.expander_model.specs.Definitions.{definition_of}
use Rattle.expander_model.specs.Held.{Numbered, anchored_definition}
use Rattle.expander_model.specs.World.{rules_in}
use Rattle.expander_model.proofs.DefinitionPlaceLemmas.{definition_with-same}
use Rattle.expander_scope.specs.MacroDefs.{definition_in}
use Rattle.step_report.proofs.BoundLemmas.{there}
use Rattle.step_report.proofs.bound.rules_again.Goals as goal

pub returns-in-Ok : goal.returns-in-Ok
returns-in-Ok c =
    ap Some (c.in-Ok.ensures.read
    ∙ ap (λ (n : Numbered). rules_in c.args.edition (anchored_definition n))
    (λ i. record {
      number = c.in-Ok.ensures.number i;
      definition = definition_in ((c.in-Ok.ensures.tree ∙ c.iter.ensures) i);
    })
    ∙ ap (rules_in c.args.edition) (definition_with-same (definition_in c.args.known.now.tree.inner)))
    ∙ ap (option_map (rules_in c.args.edition))
    (there (definition_of c.args.known.now.tree.inner) _ c.args.known.now.is_definition)
