use Rattle.std.proofs.Common.{◌≡◌, drop, true}
use Rattle.std.specs.List.{list_all}
use Rattle.rustc_lexer.specs.Character.{is_digit}
use Rattle.bridge.proofs.printing.fast_spelling.has_digits_alone.Given as goal

-- where the bytes that are left are digits, all are
abbrev pub invariant-loop-byte : goal.invariant-loop-byte
invariant-loop-byte l = record {
  alone : list_all is_digit (drop l.byte-index l.fn.text) ≡ true → list_all is_digit l.fn.text ≡ true;
}
