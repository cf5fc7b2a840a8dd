use Rattle.std.specs.Prelude.{◌≡◌, ◌++◌, map}
use Rattle.serde_json.specs.View.{view}
use Rattle.expander_model.specs.Pieces.{cut}
use Rattle.tt_data.specs.Forest.{size}
use Rattle.session_workspace.specs.Ranges.{IsSpot}
use Rattle.session_workspace.specs.Symbols.{symbols_among}
use Rattle.session_workspace.proofs.outline.symbols_in.Given as given

-- those so far, and those among what is left, are all; and the spot of the last of them
abbrev pub invariant-loop-piece : given.invariant-loop-piece
invariant-loop-piece l = record {
  so_far : map view l.symbols.items ++ symbols_among l.text (cut l.rest)
      ≡ symbols_among l.text (cut l.list);
  spot : IsSpot l.text l.last;
}

abbrev pub decreases-loop-piece : given.decreases-loop-piece
decreases-loop-piece l = size l.rest
