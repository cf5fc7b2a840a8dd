use Rattle.tt_data.specs.Forest.{empty, leaf}
use Rattle.expander_sources.proofs.AddingLemmas.{adds_then}
use Rattle.expander_sources.proofs.rooting.push_two.Goals as goal

pub returns-clause-ok : goal.returns-clause-ok
returns-clause-ok c =
    adds_then c.push-2.result _ _ _ (leaf c.args.first empty) (leaf c.args.second empty) c.in_ok-push.ensures.ok c.push-2.ensures.ok
