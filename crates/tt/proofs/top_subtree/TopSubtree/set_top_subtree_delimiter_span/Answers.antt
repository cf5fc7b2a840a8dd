use Rattle.std.proofs.Common.{rules}
use Rattle.tt.proofs.HeldMarks.{one_head}
use Rattle.tt.proofs.top_subtree.TopSubtree.set_top_subtree_delimiter_span.Goals as goal

pub returns : goal.returns
returns c = search rules

pub set_head-requires : goal.set_head-requires
set_head-requires c = rw c.start.ensures (one_head _ c.self.invariant.0)
