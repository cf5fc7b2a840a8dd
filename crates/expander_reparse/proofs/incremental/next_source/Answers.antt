use Rattle.std.proofs.Common.{refl}
use Rattle.std.specs.Rc.{rc_value}
use Rattle.expander_reparse.proofs.incremental.next_source.Goals as goal

pub returns-in-Some-clause-met : goal.returns-in-Some-clause-met
returns-in-Some-clause-met c = (rc_value c.in-Some.source, rw c.in-Some.is at c.in_ok-i.ensures.number, refl)
