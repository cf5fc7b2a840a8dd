use Rattle.std.proofs.Common.{rules}
use Rattle.bridge.proofs.printing.state.is_joint.Goals as goal

pub returns-in-Joint : goal.returns-in-Joint
returns-in-Joint c = search rules

pub returns-in_default : goal.returns-in_default
returns-in_default c = search rules
