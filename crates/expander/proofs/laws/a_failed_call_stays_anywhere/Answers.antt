use Rattle.expander.proofs.PartedLemmas.{failed_faults, failed_finds, failed_steps}
use Rattle.expander.proofs.laws.a_failed_call_stays_anywhere.Goals as goal

pub returns-clause-steps : goal.returns-clause-steps
returns-clause-steps c = λ world scope depth outer front passed call d e finds fails p. failed_steps world scope outer front passed call d e finds depth fails p

pub returns-clause-faults : goal.returns-clause-faults
returns-clause-faults c = λ world scope depth outer front passed call d e finds fails p. failed_faults world scope outer front passed call d e finds depth fails p

pub returns-clause-finds : goal.returns-clause-finds
returns-clause-finds c = λ world scope depth outer front passed call d e finds fails p. failed_finds world scope outer front passed call d e finds depth fails p
