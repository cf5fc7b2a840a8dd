use Rattle.std.proofs.Common.{arith}
use Rattle.pieced_text.proofs.DifferenceLemmas.{front_more}
use Rattle.pieced_text.proofs.difference.more_front.Goals as goal

pub loop-at-preserved : goal.loop-at-preserved
loop-at-preserved c = record {
  old = omega (arith, c.loop-at-test.true, c.min-most.ensures, c.loop-at.invariant.old, c.loop-at.invariant.new);
  new = omega (arith, c.loop-at-test.true, c.min-most.ensures, c.loop-at.invariant.old, c.loop-at.invariant.new);
  same = front_more c.args.old.now c.args.new.now c.loop-at.at c.args.step c.loop-at.invariant.same (c.are_same.ensures c.if-are_same.true);
}
