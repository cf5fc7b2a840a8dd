use Rattle.replay_script.proofs.EditLemmas.{no_number, no_space}
use Rattle.replay_script.proofs.words.number_before.Goals as goal

pub returns-in_default : goal.returns-in_default
returns-in_default c = no_space c.args.text.now c.in_default.ensures

pub returns-in-None : goal.returns-in-None
returns-in-None c =
    no_number c.args.text.now c.in-Some.word.now c.in-Some.rest.now c.in-Some.ensures.0 c.in-Some.ensures.1 c.in-None.ensures
