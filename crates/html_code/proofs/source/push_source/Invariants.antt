use Rattle.std.proofs.Common.{◌≡◌, ◌++◌, drop, length, string_bytes}
use Rattle.rustc_lexer.specs.Remaining.{tokens_left}
use Rattle.rustc_lexer.specs.TokensAt.{AreTokensFrom}
use Rattle.html_code.specs.Parts.{html_of}
use Rattle.html_code.specs.Places.{point_of}
use Rattle.html_code.specs.SourceParts.{source_parts, starts_from, token_starts}
use Rattle.html_code.proofs.SourceLemmas.{IsSoFar}
use Rattle.html_code.proofs.source.push_source.Given as goal

abbrev pub invariant-loop-token : goal.invariant-loop-token
invariant-loop-token l = record {
  stand : AreTokensFrom l.text l.start (tokens_left l.token-iterator);
  parts :
      IsSoFar (λ cuts. string_bytes l.initial.page ++ html_of (source_parts cuts l.fn.faults l.text))
      (string_bytes l.page) (point_of l.walk) (length l.starts.items) l.start (drop l.start l.text) (tokens_left l.token-iterator);
  starts : l.starts.items ++ starts_from l.start (tokens_left l.token-iterator) ≡ token_starts l.text;
}
