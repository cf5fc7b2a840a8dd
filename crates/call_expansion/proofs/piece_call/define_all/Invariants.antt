use Rattle.std.proofs.Common.{◌≡◌, List, map, take}
use Rattle.expander_model.specs.Definitions.{Definition}
use Rattle.expander_model.specs.Meaning.{definitions_after}
use Rattle.expander_reparse.specs.RelativePieces.{piece_at}
use Rattle.expander_scope.specs.ScopeTable.{AreRead}
use Rattle.call_expansion.specs.InScope.{HasInScope}
use Rattle.call_expansion.proofs.piece_call.define_all.Given as goal

-- those of the pieces so far are in scope
abbrev pub invariant-loop-piece : goal.invariant-loop-piece
invariant-loop-piece l = record {
  met : (before : List Definition) → HasInScope l.dialect l.fn.scope before
      → HasInScope l.dialect l.scope (definitions_after before (map piece_at (take l.piece-index l.pieces)));
  edition : l.scope.edition ≡ l.fn.scope.edition;
  read : AreRead l.scope;
}
