use Rattle.std.proofs.Common.{◌≡◌, drop, chars}
use denote.Text.{Utf8}
use denote.Shadow.{shadow}
use Rattle.rustc_lexer.proofs.raw_str.skip_chars.Given as goal

abbrev pub invariant-loop : goal.invariant-loop
invariant-loop l = shadow (Utf8 l.rest) × (chars l.rest ≡ drop l.counter (chars l.fn.text))
