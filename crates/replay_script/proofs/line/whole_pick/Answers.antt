use Rattle.replay_script.specs.Scripts.{indices_of}
use Rattle.replay_script.proofs.PickLemmas.{no_whole}
use Rattle.replay_script.proofs.line.whole_pick.Goals as goal

pub returns-in_default : goal.returns-in_default
returns-in_default c = λ p. no_whole c.args.word.now c.requires c.in_default.ensures p.source (indices_of p)
