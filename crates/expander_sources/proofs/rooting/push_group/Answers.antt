use Rattle.expander_sources.proofs.AddingLemmas.{adds_group}
use Rattle.expander_sources.proofs.rooting.push_group.Goals as goal

pub returns-clause-ok : goal.returns-clause-ok
returns-clause-ok c =
    adds_group c.close.result _ _ _ _ c.args.kind c.args.at _ c.in_ok-open.ensures.ok c.in_ok-push_rooted.ensures.ok c.close.ensures.ok
