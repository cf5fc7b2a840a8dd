use Rattle.html_code.proofs.PageLemmas.{blanks_more}
use Rattle.html_code.proofs.expansion.push_line_end.Goals as goal

pub loop-preserved : goal.loop-preserved
loop-preserved c =
    blanks_more _ _ _ c.loop.counter c.min-end.result c.loop-test.true c.loop.invariant c.in_ok-push_str-2.ensures.bytes
