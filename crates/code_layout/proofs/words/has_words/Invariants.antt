use Rattle.std.proofs.Common.{◌≡◌, drop}
use Rattle.std.specs.Prelude.{◌↔◌}
use Rattle.rustc_lexer.specs.Remaining.{tokens_left}
use Rattle.rustc_lexer.specs.TokensAt.{AreTokensFrom}
use Rattle.code_layout.specs.Places.{all_words}
use Rattle.code_layout.specs.Words.{words_from, words_of}
use Rattle.code_layout.proofs.words.has_words.Given as goal

abbrev pub invariant-loop-token : goal.invariant-loop-token
invariant-loop-token l = record {
  stand : AreTokensFrom l.text l.at (tokens_left l.token-iterator);
  same :
      (words_of l.text ≡ all_words l.words)
      ↔ (words_from l.before (drop l.at l.text) (tokens_left l.token-iterator) ≡ all_words l.left.words.now);
}
