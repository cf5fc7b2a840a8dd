use Rattle.std.proofs.Common.{◌≡◌, ◌∙◌, ◌++◌, ◌∷◌, [], ap, map, sym}
use Rattle.std.proofs.lemmas.List.{map-append}
use Rattle.expander_model.specs.Pieces.{cut}
use Rattle.serde_json.specs.View.{view}
use Rattle.session_workspace.specs.Symbols.{symbols_among}
use Rattle.session_workspace.proofs.SymbolLemmas.{one_symbol}
use Rattle.session_workspace.proofs.outline.symbols_in.Goals as goal

pub loop-piece-preserved-in-Some-definition_of : goal.loop-piece-preserved-in-Some-definition_of
loop-piece-preserved-in-Some-definition_of c =
    let items : map view c.push.new.self.items
    ≡ map view c.loop-piece.symbols.items ++ view c.in_ok-value.value ∷ [] =
    ap (map view) c.in_ok-push.ensures.items
    ∙ map-append view c.loop-piece.symbols.items (c.in_ok-value.value ∷ []) in
    record {
      so_far = rw items (one_symbol c.args.text.now (map view c.loop-piece.symbols.items)
          (symbols_among c.args.text.now (cut c.args.list.now)) (view c.in_ok-value.value)
          c.loop-piece.rest c.next_piece.new.rest c.in-Some.piece
          c.in-Some-definition_of.definition c.in-Some.ensures.0
          (sym c.in-Some-definition_of.ensures) c.in_ok-value.ensures.value
          c.loop-piece.invariant.so_far);
      spot = c.in_ok-value.ensures.spot;
    }
