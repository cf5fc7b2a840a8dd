use Rattle.std.proofs.Common.{◌≡◌, drop}
use Rattle.std.specs.List.{list_all}
use Rattle.html_code.specs.Tokens.{is_plain_byte}
use Rattle.html_code.proofs.token.is_plain.Given as goal

-- those left decide
abbrev pub invariant-loop-byte : goal.invariant-loop-byte
invariant-loop-byte l = list_all is_plain_byte l.fn.text ≡ list_all is_plain_byte (drop l.byte-index l.byte-items)
