use Rattle.std.proofs.Common.{◌≡◌, ◌≤◌, [], List, ◌++◌, ◌∙◌, ap, append-nil, arith, drop, length, map, sym}
use Rattle.std.specs.Prelude.{flat_map}
use Rattle.std.proofs.lemmas.List.{drop_all}
use Rattle.tt_data.specs.Forest.{map_spans}
use Rattle.expander_reparse.specs.RelativePieces.{piece_at}
use Rattle.expander_reparse.specs.declared.piece.Piece.{Piece}
use Rattle.expander_sources.specs.Sources.{items_of, most_modules, of_text}
use Rattle.expander_sources.proofs.source.items_of_pieces.Goals as goal

pub returns-clause-items : goal.returns-clause-items
returns-clause-items c =
    let pieces : List Piece = c.args.pieces.now in
    let few : length pieces ≤ c.loop-piece.piece-index = omega (arith, c.loop-piece-test.false) in
    let none : drop c.loop-piece.piece-index pieces ≡ [] = drop_all c.loop-piece.piece-index pieces few in
    sym (append-nil c.loop-piece.items.items)
    ∙ ap (λ (ps : List Piece). c.loop-piece.items.items ++ flat_map (items_of most_modules []) (map (map_spans (of_text c.args.number)) (map piece_at ps))) (sym none)
    ∙ c.loop-piece.invariant
