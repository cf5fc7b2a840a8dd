use Rattle.std.proofs.Common.{refl}
use Rattle.html_code.proofs.PageLemmas.{links_more}
use Rattle.html_code.proofs.faults.push_faults.Goals as goal

pub loop-fault-preserved : goal.loop-fault-preserved
loop-fault-preserved c =
    links_more _ _ _ _ _ _ c.args.faults.now c.loop-fault.fault-index _ _ c.loop-fault-test.true c.loop-fault.invariant c.number_here.ensures
    refl c.in_ok-push_fault.ensures c.items_after-left.ensures
