use Rattle.std.proofs.Common.{arith}
use Rattle.std.proofs.lemmas.Grind.{common_steps}
use Rattle.rpc_frames.proofs.HeadLemmas.{head_end-drop}
use Rattle.rpc_frames.proofs.head.head_len.Goals as goal

pub loop-at-preserved : goal.loop-at-preserved
loop-at-preserved c =
    grind (arith, common_steps, head_end-drop c.loop-at.at c.args.bytes.now)
