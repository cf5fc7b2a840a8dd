-- What is added for a piece, and what is left of a prelude that is cut back.
use Rattle.std.proofs.Common.{◌≡◌, ℕ, zero, suc, false, List, [], ◌∷◌, ◌++◌, take, refl, ap, ◌∙◌}
use Rattle.std.specs.Prelude.{None, is_some}
use Rattle.tt_data.specs.Forest.{Forest, map_spans}
use Rattle.tt_data.specs.declared.span.Span.{Span}
use Rattle.expander_model.specs.Definitions.{definition_of}
use Rattle.expander_model.specs.Held.{moved_on}
use Rattle.expander_reparse.specs.RelativePieces.{piece_at, tree_at}
use Rattle.expander_reparse.specs.declared.piece.Piece.{Piece}
use Rattle.expander_sources.specs.Imports.{import_piece, import_pieces}
use Rattle.expander_sources.specs.Sources.{inner_items, items_of, module_of, most_modules, of_text}
use Rattle.expander_sources.specs.declared.import.Import.{Import}
use Rattle.expander_sources.proofs.ImportLemmas.{own_absent}
use Rattle.expander_sources.proofs.ItemLemmas.{no_module}
use Rattle.tt_data.proofs.ForestLemmas.{map_spans-map_spans}

-- a piece that is neither a definition nor a module has none
pub nothing_there : (t : ℕ) (o : Piece) → is_some (definition_of (tree_at o).inner) ≡ false → module_of (tree_at o).inner ≡ None
    → items_of most_modules [] (map_spans (of_text t) (piece_at o)) ≡ []
nothing_there t o d m =
    let tree : Forest = (tree_at o).inner in
    let f : Span → Span = λ s. of_text t (moved_on o.start s) in
    ap (items_of most_modules []) (map_spans-map_spans (of_text t) (moved_on o.start) tree)
    ∙ ap (λ xs. xs ++ inner_items most_modules [] (map_spans f tree)) (own_absent f [] tree d)
    ∙ no_module f most_modules [] tree m

pub take_pieces : (n : ℕ) (imports : List Import) → import_pieces (take n imports) ≡ take n (import_pieces imports)
take_pieces zero imports = refl
take_pieces (suc n) [] = refl
take_pieces (suc n) (i ∷ imports) = ap (λ ps. import_piece i ∷ ps) (take_pieces n imports)
