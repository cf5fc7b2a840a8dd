use Rattle.expander_session.proofs.AbsoluteSpanLemmas.{told_done, told_more}
use Rattle.expander_session.proofs.absolute_spans.put_faults.Goals as goal

pub loop-told-preserved : goal.loop-told-preserved
loop-told-preserved c =
    told_more c.args.start c.args.starts.now c.args.own.now c.loop-told.told-index _ _ _ _ c.loop-told-test.true c.in_ok-put_fault.ensures c.loop-told.invariant

pub returns : goal.returns
returns c = told_done c.args.start c.args.starts.now c.args.own.now c.loop-told.told-index _ _ c.loop-told-test.false c.loop-told.invariant
