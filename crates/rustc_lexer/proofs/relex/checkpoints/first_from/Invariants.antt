use Rattle.std.proofs.Common.{◌≡◌, ◌+◌, ℕ, take, drop}
use Rattle.std.specs.List.{list_any}
use Rattle.rustc_lexer.specs.Edit.{boundaries_from, moves_to}
use Rattle.rustc_lexer.specs.Relexing.{total}
use Rattle.rustc_lexer.proofs.relex.checkpoints.first_from.Given as goal

abbrev pub invariant-loop-k : goal.invariant-loop-k
invariant-loop-k l = record {
  place : l.place ≡ l.at + total (take l.k l.tokens);
  moves : (moved place : ℕ) → list_any (moves_to l.stop moved place) (boundaries_from l.at l.tokens)
      ≡ list_any (moves_to l.stop moved place) (boundaries_from l.place (drop l.k l.tokens));
}
