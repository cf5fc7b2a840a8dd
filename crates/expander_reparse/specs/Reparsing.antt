-- How a text is read piece by piece.
use Rattle.std.specs.Prelude.{◌≡◌, ℕ, ◌+◌, ◌≤◌, ◌++◌, chars, drop, take, [], ◌∷◌, All, IfSome}
use Rattle.std.specs.Prelude.{List, None, Option, Some, length, map, slice_get}
use Rattle.std.specs.Global.{Global}
use Rattle.std.specs.Rc.{rc_value}
use Rattle.std.specs.declared.rc.Rc.{Rc}
use Rattle.bridge.specs.ReadText.{text_top}
use Rattle.bridge.specs.Reading.{IsReading, PlacedToken, TextStep, placed_from, reading, with_front}
use Rattle.bridge.specs.TokenSteps.{class_of, steps_of, steps_of_class, text_reading}
use Rattle.rustc_lexer.specs.declared.token.TokenKind.{TokenKind}
use Rattle.rustc_lexer.specs.TokensAt.{AreTokensFrom}
use Rattle.rustc_lexer.specs.declared.token.Token.{Token}
use Rattle.tt.specs.Tops.{Top}
use Rattle.tt_data.specs.Forest.{Forest, joined}
use Rattle.bridge.specs.Parts.{begins_with_mark, part_steps}
use Rattle.expander_model.specs.HashedTrees.{own_top}
use Rattle.expander_reparse.specs.RelativePieces.{AreOwn, own_shown, tree_at}
use Rattle.expander_model.specs.Pieces.{first_start, pieces, separated}
use Rattle.expander_reparse.specs.Segments.{AreListed, AreParts, AreReadAs, IsHeldAt}
use Rattle.expander_reparse.specs.Segments.{IsCachedPiece, OccursFirst, all_in, bytes_of}
use Rattle.expander_reparse.specs.Segments.{chars_ahead, part_shown, pieces_of, sources_of}
use Rattle.expander_model.specs.Splitting.{HasShape, IsOpen}
use Rattle.expander_reparse.specs.declared.piece.Piece.{Piece}
use Rattle.expander_reparse.specs.declared.segment_builder.OpenSegment.{OpenSegment}
use Rattle.expander_reparse.specs.declared.segment_builder.Reparse.{Reparse}
use Rattle.expander_model.specs.declared.split.Shape.{Shape}
use Rattle.expander_reparse.specs.declared.segment.CachedSegment.{CachedSegment}
use Rattle.expander_reparse.specs.declared.segment.SegmentPart.{SegmentPart}
use Rattle.expander_reparse.specs.declared.segment.CachedPiece.{CachedPiece}
use Rattle.expander_reparse.specs.declared.segment.Segments.{Segments}
use Rattle.expander_reparse.specs.declared.segment.Segment.{Segment}

-- these events read as a tree of this shape, each `;` between pieces alone, that starts at 0
pub record IsReadPiece (steps : List TextStep) (shape : Shape) (t : Top) : Type 0 where
  pub forest : Forest
  pub read : IsReading steps forest
  pub top : t.delimiter ≡ text_top
  pub apart : t.inner ≡ separated forest
  pub shaped : HasShape t.inner shape
  pub at_first : first_start t.inner ≡ 0

-- all that is left of a text at this offset is this one piece, which nothing ends
pub record IsLastPiece (text : List ℕ) (at : ℕ) (left : List Token) (o : Piece) : Type 0 where
  pub forest : Forest
  pub read : IsReading (part_steps 0 (length left) (drop at text) left) forest
  pub opens : IsOpen (separated forest)
  pub at_first : first_start (separated forest) ≡ 0
  pub start : o.start ≡ at
  pub tree : tree_at o ≡ own_top (separated forest)
  pub met : o.met ≡ None

-- a piece has the tree of the cached piece of this index, if one is named
abbrev pub IsMet : Segments → Option ℕ → Top → Type 0
IsMet held met tree =
    IfSome met (λ i. (s : CachedPiece) × IsHeldAt held i s × (rc_value s.tree ≡ tree))

-- each piece has the tree of the cached piece that it names, if it names one
abbrev pub AreMet : Segments → List Piece → Type 0
AreMet held own = All (λ (o : Piece). IsMet held o.met (tree_at o)) own

-- a cached piece with these bytes, before this text, so many tokens, before these, and this tree
pub record KeepsCached (word behind : List ℕ) (count : ℕ) (after : List Token) (t : Top)
    (s : CachedPiece) : Type 0 where
  pub bytes : s.cutout.bytes ≡ word
  pub ahead : chars_ahead s.cutout.ahead ≡ take 2 (chars behind)
  pub count_is : s.cutout.count ≡ count
  pub mark : s.cutout.mark ≡ begins_with_mark after
  pub tree : rc_value s.tree ≡ t

-- a right cached piece occurs first in a text with these tokens
pub record IsCachedHere (text : List ℕ) (tokens : List Token) (s : CachedPiece) : Type 0 where
  pub right : IsCachedPiece s
  pub stands : OccursFirst s.cutout text tokens

-- a token of this kind is read as nothing
abbrev pub IsBlank : TokenKind → Type 0
IsBlank kind = (t : PlacedToken) (more : List PlacedToken)
    → steps_of_class (class_of kind) t more ≡ []

-- more pieces were added, which start at these offsets and have these trees
pub record AddsPieces (shown : List (ℕ × Top)) (old new : List Piece) : Type 0 where
  pub more : List Piece
  pub items : new ≡ old ++ more
  pub are : map own_shown more ≡ shown

-- a text was read up to this offset as these pieces, and these tokens are left
pub record Passed (text : List ℕ) (at : ℕ) (left : List Token) (own : List Piece) : Type 0 where
  pub front : Forest
  pub ps : List Forest
  pub here : AreTokensFrom text at left
  pub reads : text_reading text ≡ with_front front
      (reading (steps_of (placed_from at (drop at text) left)))
  pub cuts : (g : Forest) → pieces (joined front g) ≡ ps ++ pieces g
  pub are_own : AreOwn ps own

-- each cached piece has the tree of the text's piece at its index
abbrev pub AreTheirs : Segments → List Piece → Type 0
AreTheirs sources own = (i : ℕ) (s : Rc CachedPiece Global) (o : Piece)
    → slice_get (all_in sources) i ≡ Some s → slice_get own i ≡ Some o
    → rc_value (rc_value s).tree ≡ tree_at o

-- these cached pieces have exactly the trees of these pieces
abbrev pub AreMade : List Piece → List (Rc CachedPiece Global) → Type 0
AreMade own list = map (λ (s : Rc CachedPiece Global). rc_value (rc_value s).tree) list
    ≡ map tree_at own

-- the tokens since the open segment began were passed, and are read as its parts
pub record IsBegun (text : List ℕ) (at : ℕ) (left : List Token) (b : OpenSegment) : Type 0 where
  pub tokens : List Token
  pub here : AreTokensFrom text b.from (tokens ++ left)
  pub count : b.tokens ≡ length (tokens ++ left)
  pub ends : at ≡ b.from + bytes_of tokens
  pub some : 1 ≤ length b.parts.items → 1 ≤ length tokens
  pub reads : AreReadAs (take (bytes_of tokens) (drop b.from text)) tokens (begins_with_mark left)
      (λ n. map (part_shown n) b.parts.items)
  pub parts : AreParts (bytes_of tokens) b.parts.items

-- one more piece, which starts at this offset, is part of the open segment
pub record TakesPart (at : ℕ) (source : Rc CachedPiece Global)
    (old new : OpenSegment) : Type 0 where
  pub part : SegmentPart
  pub source_is : part.source ≡ source
  pub before : old.from + part.before ≡ at
  pub parts : new.parts.items ≡ old.parts.items ++ part ∷ []
  pub from : new.from ≡ old.from
  pub tokens : new.tokens ≡ old.tokens
  pub first : new.first ≡ old.first

-- one more segment is cached, after so many pieces
pub record AddsSegment (first : ℕ) (s : Segment) (old new : List CachedSegment) : Type 0 where
  pub held : CachedSegment
  pub first_is : held.first ≡ first
  pub is : rc_value held.segment ≡ s
  pub items : new ≡ old ++ held ∷ []

-- a text was read up to here: its pieces so far, their segments, and what is cached of them
pub record IsReparse (held : Segments) (text : List ℕ) (at : ℕ) (left : List Token)
    (now : Reparse) : Type 0 where
  pub passed : Passed text at left now.own.items
  pub met : AreMet held now.own.items
  pub begun : IsBegun text at left now.begun
  pub listed : AreListed now.list.items
  pub first : now.begun.first ≡ length (pieces_of now.list.items)
  pub made : AreMade now.own.items (pieces_of now.list.items ++ sources_of now.begun.parts.items)
