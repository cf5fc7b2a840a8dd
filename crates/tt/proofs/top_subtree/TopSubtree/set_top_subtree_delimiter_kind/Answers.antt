use Rattle.tt.proofs.HeldMarks.{one_head}
use Rattle.tt.proofs.top_subtree.TopSubtree.set_top_subtree_delimiter_kind.Goals as goal

pub set_head-requires : goal.set_head-requires
set_head-requires c = rw c.start.ensures (one_head _ c.self.invariant.0)
