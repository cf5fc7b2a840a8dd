use Rattle.bridge.specs.TokenSteps.{text_steps}
use Rattle.expander_reparse.proofs.parse.read_apart.Goals as goal

pub returns-in-Fault-clause-read : goal.returns-in-Fault-clause-read
returns-in-Fault-clause-read c =
    c.reading_is_a_relation.ensures.told (text_steps c.args.text.now) c.in-Fault.fault (rw c.in-Fault.is at c.in_ok-fault.ensures.read)
