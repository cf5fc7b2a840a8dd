use Rattle.replay_script.specs.Scripts.{indices_of}
use Rattle.replay_script.proofs.PickLemmas.{no_front, no_list}
use Rattle.replay_script.proofs.line.pick_of.Goals as goal

pub returns-in_default-number_of : goal.returns-in_default-number_of
returns-in_default-number_of c = λ p.
    no_front c.args.word.now c.in-Some.front.now c.in-Some.list.now c.in-Some.ensures.0 c.in-Some.ensures.1 c.in_default-number_of.ensures p.source (indices_of p)

pub returns-in_default-2 : goal.returns-in_default-2
returns-in_default-2 c = λ p.
    no_list c.args.word.now c.in-Some.front.now c.in-Some.list.now c.in-Some.ensures.0 c.in-Some.ensures.1 (rw c.in_default-2.is at c.in_ok-indices.ensures) p.source
    (indices_of p)
