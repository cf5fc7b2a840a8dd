use Rattle.std.proofs.Common.{length}
use Rattle.expander_reparse.specs.RecentPieces.{AreRight}
use Rattle.expander_reparse.specs.Reparsing.{IsReparse}
use Rattle.expander_reparse.proofs.incremental.read_by_pieces.Given as goal

abbrev pub invariant-loop-context : goal.invariant-loop-context
invariant-loop-context l = IsReparse l.held l.text l.at l.left l.now × AreRight l.recent.pieces.items

abbrev pub decreases-loop-context : goal.decreases-loop-context
decreases-loop-context l = length l.left
