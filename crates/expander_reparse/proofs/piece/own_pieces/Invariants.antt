use Rattle.std.proofs.Common.{◌≡◌, ◌++◌, map}
use Rattle.std.specs.Prelude.{All, None}
use Rattle.tt_data.specs.Forest.{size}
use Rattle.expander_reparse.specs.RelativePieces.{own_of, own_shown}
use Rattle.expander_model.specs.Pieces.{cut}
use Rattle.expander_reparse.specs.declared.piece.Piece.{Piece}
use Rattle.expander_reparse.proofs.piece.own_pieces.Given as goal

-- the pieces so far, with those that are left, are all of them, and none is told by a held one
abbrev pub invariant-loop-piece : goal.invariant-loop-piece
invariant-loop-piece l = (map own_shown l.pieces.items ++ map own_of (cut l.rest) ≡ map own_of (cut l.trees)) × All (λ (o : Piece). o.met ≡ None) l.pieces.items

abbrev pub decreases-loop-piece : goal.decreases-loop-piece
decreases-loop-piece l = size l.rest
