use Rattle.std.proofs.Common.{◌≡◌, chars}
use Rattle.rustc_lexer.specs.Lexing.{tokens_of}
use Rattle.rustc_lexer.specs.Remaining.{tokens_left}
use Rattle.rustc_lexer.specs.Shebang.{begins_with_bracket}
use Rattle.rustc_lexer.proofs.shebang.begins_with_bracket.Given as goal

abbrev pub invariant-loop-token : goal.invariant-loop-token
invariant-loop-token l = begins_with_bracket (tokens_left l.token-iterator) ≡ begins_with_bracket (tokens_of (chars l.text))
