-- The pieces of a text, each with piece-relative spans and where it starts.
use Rattle.std.specs.Prelude.{◌≡◌, ℕ, List, map}
use Rattle.std.specs.Rc.{rc_value}
use Rattle.tt.specs.Tops.{Top}
use Rattle.tt_data.specs.Forest.{Forest, map_spans}
use Rattle.expander_model.specs.HashedTrees.{own_top}
use Rattle.expander_model.specs.Held.{StandFromFirst, moved_on}
use Rattle.expander_reparse.specs.SegmentTrees.{part_tree}
use Rattle.expander_model.specs.Pieces.{first_start, relative}
use Rattle.expander_reparse.specs.declared.piece.Piece.{Piece}
use Rattle.expander_reparse.specs.declared.piece.PieceTree.{PieceTree}
use Rattle.expander_reparse.specs.declared.piece.PieceTree.TheVariants as held

-- the tree of a piece
abbrev pub tree_in : PieceTree → Top
tree_in (held.Alone tree) = rc_value tree
tree_in (held.Source source) = rc_value (rc_value source).tree
tree_in (held.Part placed) = part_tree (rc_value placed.segment).parts.items placed.at

-- the tree of a piece with its start
abbrev pub tree_at : Piece → Top
tree_at own = tree_in own.tree

-- a piece starts where its first token does, and has its tree with piece-relative spans
pub record IsOwn (piece : Forest) (own : Piece) : Type 0 where
  pub start : own.start ≡ first_start piece
  pub tree : tree_at own ≡ own_top (relative piece)

-- where a piece starts, and its tree with piece-relative spans
abbrev pub own_of : Forest → ℕ × Top
own_of piece = (first_start piece, own_top (relative piece))

-- where a piece of the code starts, and its tree
abbrev pub own_shown : Piece → ℕ × Top
own_shown own = (own.start, tree_at own)

-- these are the pieces, in order
abbrev pub AreOwn : List Forest → List Piece → Type 0
AreOwn pieces own = map own_shown own ≡ map own_of pieces

-- the piece, with its spans in the text
abbrev pub piece_at : Piece → Forest
piece_at own = map_spans (moved_on own.start) (tree_at own).inner

-- it starts at its first token
pub record IsOwnPiece (own : Piece) : Type 0 where
  pub is_own : IsOwn (piece_at own) own
  pub stands : StandFromFirst (piece_at own)
