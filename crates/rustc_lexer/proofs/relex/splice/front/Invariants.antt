use Rattle.std.proofs.Common.{◌≡◌, ◌+◌, ◌<◌, true, take, drop}
use Rattle.std.specs.List.{prefix_len}
use Rattle.rustc_lexer.specs.Edit.{ends_from, front_of, is_clear_of}
use Rattle.rustc_lexer.specs.Relexing.{total}
use Rattle.rustc_lexer.proofs.relex.splice.front.Given as goal

abbrev pub invariant-loop-k : goal.invariant-loop-k
invariant-loop-k l = record {
  at : l.at ≡ total (take l.k l.tokens);
  clear : 0 < l.k → is_clear_of l.text l.start l.at ≡ true;
  count : front_of l.text l.start ≡ l.k + prefix_len (is_clear_of l.text l.start) (ends_from l.at (drop l.k l.tokens));
}
