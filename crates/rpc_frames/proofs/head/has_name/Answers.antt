use Rattle.std.proofs.Common.{arith}
use Rattle.std.proofs.lemmas.Grind.{common_steps}
use Rattle.rpc_frames.specs.Frames.{field_name}
use Rattle.rpc_frames.proofs.HeadLemmas.{has_name-drop, has_name-short}
use Rattle.rpc_frames.proofs.head.has_name.Goals as goal

pub loop-i-preserved : goal.loop-i-preserved
loop-i-preserved c =
    grind (arith, common_steps, has_name-drop field_name c.args.line.now c.loop-i.i)

pub returns-then-i-line-clause-name : goal.returns-then-i-line-clause-name
returns-then-i-line-clause-name c =
    grind (
      arith,
      common_steps,
      has_name-drop field_name c.args.line.now c.loop-i.i,
      has_name-short field_name c.args.line.now c.loop-i.i,
    )
