use Rattle.std.proofs.Common.{subst}
use Rattle.std.specs.Prelude.{OnOk}
use Rattle.tt_data.specs.Forest.{empty, leaf}
use Rattle.tt_data.specs.declared.leaf.Leaf.TheVariants as as_leaf
use Rattle.expander_model.specs.Definitions.{Definition}
use Rattle.expander_sources.specs.Builds.{Adds}
use Rattle.expander_sources.specs.Picks.{head_at, keyword_at}
use Rattle.expander_sources.proofs.AddingLemmas.{adds_then}
use Rattle.expander_sources.proofs.rooting.push_head.Goals as goal

pub returns-clause-ok : goal.returns-clause-ok
returns-clause-ok c =
    subst (λ (d : Definition). OnOk c.push.result (Adds c.args.tree.now.tree c.push.new.self.tree (head_at c.args.key d c.args.at empty))) c.definition.view_is
    (adds_then c.push.result _ _ _ (keyword_at c.definition.inside.is_macro c.args.at)
    (leaf (as_leaf.Ident (record c.definition.inside.name { sym = c.args.key })) empty) c.in_ok-push_keyword.ensures.ok c.push.ensures.ok)
