use Rattle.mbe_matcher.proofs.TheLoopLemmas.{not-one}
use Rattle.mbe_matcher.proofs.matcher.only_ended.Goals as goal

pub returns-then-waiting-ne1 : goal.returns-then-waiting-ne1
returns-then-waiting-ne1 c p = not-one p c.args.waiting.now c.requires c.if-waiting-ne1.true
