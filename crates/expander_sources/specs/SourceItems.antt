-- How the definitions of a source are stored.
use Rattle.std.specs.Prelude.{◌≡◌, ℕ, List, Some}
use Rattle.tt_data.specs.Forest.{Forest, empty, leaf, group}
use Rattle.tt_data.specs.Spans.{span_of}
use Rattle.tt_data.specs.declared.span.Span.{Span}
use Rattle.tt_data.specs.declared.span.TextRange.{TextRange}
use Rattle.tt_data.specs.declared.span.SyntaxContext.TheVariants.{Written}
use Rattle.bridge.specs.Pieces as bare_pieces
use Rattle.expander_model.specs.Held.{AllSpans}
use Rattle.expander_reparse.specs.RelativePieces.{IsOwnPiece, piece_at}
use Rattle.expander_reparse.specs.declared.piece.Piece.{Piece}
use Rattle.expander_sources.specs.Imports.{IsImport, import_piece}
use Rattle.expander_sources.specs.Sources.{name_of, name_range_of, range_of}
use Rattle.expander_sources.specs.declared.import.Import.{Import}

-- a name and ranges are those of a definition's piece
pub record IsSourceItem (import : Import) (name : List ℕ)
    (name_range range : TextRange) : Type 0 where
  pub right : IsImport import
  pub named : name_of (import_piece import) ≡ Some name
  pub name_placed : name_range_of (import_piece import) ≡ Some name_range
  pub placed : range_of (import_piece import) ≡ range

-- no span of trees is before that of an earlier token
abbrev pub AreInOrder : Forest → Type 0
AreInOrder empty = Unit {0}
AreInOrder (leaf l rest) = AllSpans (bare_pieces.IsFrom (span_of l).range.start) (leaf l rest)
    × AreInOrder rest
AreInOrder (group d inner rest) =
    AllSpans (bare_pieces.IsFrom d.open_span.range.start) (group d inner rest) × AreInOrder inner
    × AreInOrder rest

-- a span that is written in the text of this number
pub record IsWrittenIn (t : ℕ) (s : Span) : Type 0 where
  pub anchor : s.anchor ≡ t
  pub ctx : s.ctx ≡ Written

-- trees as they are written in the text of this number
pub record AreOrdered (t : ℕ) (f : Forest) : Type 0 where
  pub written : AllSpans (IsWrittenIn t) f
  pub order : AreInOrder f

-- a piece of a text, with its tokens in order
pub record IsSourcePiece (o : Piece) : Type 0 where
  pub own : IsOwnPiece o
  pub order : AreInOrder (piece_at o)
