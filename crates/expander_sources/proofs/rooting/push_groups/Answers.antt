use Rattle.std.proofs.Common.{subst}
use Rattle.std.specs.Prelude.{OnOk}
use Rattle.expander_model.specs.Definitions.{Definition}
use Rattle.expander_sources.specs.Builds.{Adds}
use Rattle.expander_sources.specs.Picks.{body_at, own_arguments}
use Rattle.expander_sources.proofs.AddingLemmas.{adds_then}
use Rattle.expander_sources.proofs.rooting.push_groups.Goals as goal

pub returns-clause-ok : goal.returns-clause-ok
returns-clause-ok c =
    adds_then c.push_group.result _ _ _ (own_arguments c.args.root.now c.args.definition.now c.args.at)
    (body_at c.args.root.now c.args.definition.now.body c.args.at) c.in_ok-push_arguments.ensures.ok
    (subst (λ (d : Definition). OnOk c.push_group.result (Adds c.push_arguments.new.tree.tree c.push_group.new.tree.tree (body_at c.args.root.now d.body c.args.at)))
    c.definition.view_is c.push_group.ensures.ok)
