use Rattle.std.proofs.Common.{◌≡◌, drop}
use Rattle.std.specs.List.{list_all}
use Rattle.html_code.specs.Tokens.{is_word_byte}
use Rattle.html_code.proofs.token.is_word.Given as goal

-- those left decide
abbrev pub invariant-loop-byte : goal.invariant-loop-byte
invariant-loop-byte l = list_all is_word_byte l.fn.text ≡ list_all is_word_byte (drop l.byte-index l.byte-items)
