use Rattle.std.proofs.Common.{◌++◌, drop, string_bytes}
use Rattle.std.specs.Prelude.{chars, map}
use Rattle.rustc_lexer.specs.Lexing.{tokens_of}
use Rattle.rustc_lexer.specs.Remaining.{tokens_left}
use Rattle.rustc_lexer.specs.TokensAt.{AreTokensFrom}
use Rattle.html_code.specs.ExpansionParts.{expansion_from}
use Rattle.html_code.specs.Parts.{html_of}
use Rattle.html_code.specs.Places.{place_of}
use Rattle.html_code.proofs.ExpansionLemmas.{IsSoFar}
use Rattle.html_code.proofs.expansion.push_expansion.Given as goal

abbrev pub invariant-loop-token : goal.invariant-loop-token
invariant-loop-token l = record {
  stand : AreTokensFrom l.printed l.start (tokens_left l.token-iterator);
  parts :
      IsSoFar l.setting.fold.now (map string_bytes l.setting.names.now)
      (λ gaps. string_bytes l.initial.page ++ html_of (expansion_from l.setting.fold.now (map string_bytes l.setting.names.now) gaps (place_of l.initial.progress) l.printed (tokens_of (chars l.printed))))
      (string_bytes l.page) (place_of l.progress) (drop l.start l.printed) (tokens_left l.token-iterator);
}
