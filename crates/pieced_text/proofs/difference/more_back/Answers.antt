use Rattle.std.proofs.Common.{arith}
use Rattle.pieced_text.proofs.DifferenceLemmas.{back_more}
use Rattle.pieced_text.proofs.difference.more_back.Goals as goal

pub loop-count-preserved : goal.loop-count-preserved
loop-count-preserved c = record {
  few = omega (arith, c.loop-count-test.true, c.loop-count.invariant.few);
  same =
      back_more c.args.old.now c.args.new.now c.loop-count.count c.args.step
      (omega (arith, c.loop-count-test.true, c.loop-count.invariant.few, c.requires.old))
      (omega (arith, c.loop-count-test.true, c.loop-count.invariant.few, c.requires.new))
      c.loop-count.invariant.same (c.ends_same.ensures c.if-ends_same.true);
}
