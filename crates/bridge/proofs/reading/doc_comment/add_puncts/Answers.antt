-- One punct, and then the other.
use Rattle.std.proofs.Common.{arith}
use Rattle.bridge.proofs.AddingLemmas.{ok_then, passed_on, refused_at}
use Rattle.bridge.proofs.reading.doc_comment.add_puncts.Goals as goal

pub returns-in-Inner-clause-ok : goal.returns-in-Inner-clause-ok
returns-in-Inner-clause-ok c = rw c.in-Inner.is (ok_then c.add_mark-in-Inner.result _ _ _ _ _ c.in_ok-add_mark.ensures.ok c.add_mark-in-Inner.ensures.ok)

pub returns-in-Inner-clause-refused : goal.returns-in-Inner-clause-refused
returns-in-Inner-clause-refused c =
    rw c.in-Inner.is (passed_on c.add_mark-in-Inner.result _ _
    (λ e h. refused_at e _ _ _ 1 2 c.in_ok-add_mark.ensures.ok (omega arith) h) c.add_mark-in-Inner.ensures.refused)
