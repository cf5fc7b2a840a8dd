use Rattle.std.proofs.Common.{rules}
use Rattle.tt.proofs.top_subtree.transform.TransformTtAction.remove.Goals as goal

pub returns : goal.returns
returns c = search rules
