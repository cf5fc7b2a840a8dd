use Rattle.std.proofs.Common.{rules}
use Rattle.std.specs.Rc.{rc_value}
use Rattle.expander_reparse.specs.Segments.{IsCachedPiece}
use Rattle.expander_reparse.proofs.RecentPieceLemmas.{right_filled}
use Rattle.expander_reparse.proofs.recent_pieces.RecentPieces.keep.Goals as goal

pub returns-in_ok-resize : goal.returns-in_ok-resize
returns-in_ok-resize c =
    let is : IsCachedPiece (rc_value c.in_ok-source.source) = search rules in
    right_filled c.args.self.now.pieces.items c.resize.new.self.items 4096 c.in_ok-source.source is c.in_ok-resize.ensures.items c.requires.kept
