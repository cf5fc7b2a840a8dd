use Rattle.std.proofs.Common.{◌≡◌, ◌<◌, true, chars}
use Rattle.rustc_lexer.specs.Edit.{is_clear_of}
use Rattle.rustc_lexer.specs.Lexing.{tokens_of}
use Rattle.rustc_lexer.specs.Relexing.{IsCheckpoint}
use Rattle.rustc_lexer.proofs.relex.checkpoints.nearest.Given as goal

abbrev pub invariant-loop-k : goal.invariant-loop-k
invariant-loop-k l = record {
  checkpoint : IsCheckpoint (tokens_of (chars l.text)) l.near;
  clear : 0 < l.near.tokens → is_clear_of l.text l.start l.near.place ≡ true;
}
