use Rattle.expander_run.proofs.SpotLemmas.{moved_past_found, moved_to}
use Rattle.expander_run.proofs.lines.past_line.Goals as goal

pub returns-in-Some-clause-spot : goal.returns-in-Some-clause-spot
returns-in-Some-clause-spot c =
    moved_past_found c.args.text.now c.args.from c.args.to c.requires.from c.requires.before c.requires.inside c.in-Some.n c.in-Some.ensures

pub returns-in-None-clause-spot : goal.returns-in-None-clause-spot
returns-in-None-clause-spot c =
    moved_to c.args.text.now c.args.from c.args.to c.requires.from c.requires.before c.requires.inside c.in-None.ensures
