use Rattle.std.proofs.Common.{◌<◌, ◌≤◌, drop, length}
use Rattle.std.specs.Prelude.{All}
use Rattle.expander_reparse.specs.declared.piece.Piece.{Piece}
use Rattle.call_expansion.proofs.piece_call.last_at.Given as goal

-- all that are behind begin behind the byte
abbrev pub invariant-loop-count : goal.invariant-loop-count
invariant-loop-count l = record {
  within : l.count ≤ length l.pieces;
  behind : All (λ (o : Piece). l.at < o.start) (drop l.count l.pieces);
}

abbrev pub decreases-loop-count : goal.decreases-loop-count
decreases-loop-count l = l.count
