use Rattle.std.proofs.Common.{◌≡◌, ◌++◌, drop}
use Rattle.rustc_lexer.specs.Remaining.{tokens_left}
use Rattle.rustc_lexer.specs.TokensAt.{AreTokensFrom}
use Rattle.code_layout.specs.Places.{all_words}
use Rattle.code_layout.specs.Words.{words_from, words_of}
use Rattle.code_layout.proofs.words.words_in.Given as goal

abbrev pub invariant-loop-token : goal.invariant-loop-token
invariant-loop-token l = record {
  stand : AreTokensFrom l.text l.at (tokens_left l.token-iterator);
  words :
      all_words l.words.items ++ words_from l.before (drop l.at l.text) (tokens_left l.token-iterator)
      ≡ words_of l.text;
}
