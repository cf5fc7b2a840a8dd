use Rattle.std.proofs.Common.{◌∙◌, [], List, ap, map, subst, sym}
use Rattle.std.specs.Prelude.{All, flat_map}
use Rattle.tt_data.specs.Forest.{map_spans}
use Rattle.expander_reparse.specs.ParsedTexts.{IsReadInPieces}
use Rattle.expander_reparse.specs.RelativePieces.{piece_at}
use Rattle.expander_reparse.specs.declared.piece.Piece.{Piece}
use Rattle.expander_sources.specs.SourceItems.{IsSourcePiece}
use Rattle.expander_sources.specs.Sources.{Item, items_of, most_modules, of_text}
use Rattle.expander_sources.proofs.SourceLemmas.{items_are, pieces_right}
use Rattle.expander_sources.proofs.source.read_source.Goals as goal

pub source_of_pieces-requires : goal.source_of_pieces-requires
source_of_pieces-requires c =
    let found = subst (IsReadInPieces c.args.text.now) c.in-Pieces.is c.in_ok-fault.ensures.read in
    let is_read = c.reading_is_a_relation.ensures.walk _ found.0 found.1 in
    subst (All IsSourcePiece) (sym c.as_slice.ensures.value)
    (pieces_right found.0 (c.tokens_follow_one_another.ensures.text c.args.text.now found.0 c.utf8.text is_read) (c.tokens_are_written.ensures c.args.text.now found.0 is_read)
    c.in-Pieces.pieces.items found.2)

pub returns-in_ok-source-in-Pieces-clause-read : goal.returns-in_ok-source-in-Pieces-clause-read
returns-in_ok-source-in-Pieces-clause-read c =
    let found = subst (IsReadInPieces c.args.text.now) c.in-Pieces.is c.in_ok-fault.ensures.read in
    let is_read = c.reading_is_a_relation.ensures.walk _ found.0 found.1 in (
      found.0,
      found.1,
      c.in_ok-source-in-Pieces.ensures.source
          ∙ ap (λ (xs : List Item). record { number = c.args.number; home = c.args.home; items = xs })
          (ap (λ (own : List Piece). flat_map (items_of most_modules []) (map (map_spans (of_text c.args.number)) (map piece_at own))) c.as_slice.ensures.value
          ∙ items_are found.0 (c.tokens_follow_one_another.ensures.text c.args.text.now found.0 c.utf8.text is_read) (c.tokens_are_written.ensures c.args.text.now found.0 is_read)
          c.in-Pieces.pieces.items found.2 c.args.number),
    )
