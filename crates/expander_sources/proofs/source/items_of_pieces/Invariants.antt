use Rattle.std.proofs.Common.{◌≡◌, ◌++◌, [], drop, map}
use Rattle.std.specs.Prelude.{flat_map}
use Rattle.tt_data.specs.Forest.{map_spans}
use Rattle.expander_reparse.specs.RelativePieces.{piece_at}
use Rattle.expander_sources.specs.Sources.{items_of, most_modules, of_text}
use Rattle.expander_sources.proofs.source.items_of_pieces.Given as goal

abbrev pub invariant-loop-piece : goal.invariant-loop-piece
invariant-loop-piece l =
    l.items.items ++ flat_map (items_of most_modules []) (map (map_spans (of_text l.number)) (map piece_at (drop l.piece-index l.pieces)))
    ≡ flat_map (items_of most_modules []) (map (map_spans (of_text l.number)) (map piece_at l.pieces))
