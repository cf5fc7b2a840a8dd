use Rattle.std.proofs.Common.{◌≡◌, drop, true}
use Rattle.std.specs.List.{list_all}
use Rattle.bridge.specs.FastSpellings.{is_plain_byte}
use Rattle.bridge.proofs.printing.fast_spelling.stands_for_itself.Given as goal

-- where the bytes that are left are plain, all are
abbrev pub invariant-loop-byte : goal.invariant-loop-byte
invariant-loop-byte l = record {
  alone : list_all is_plain_byte (drop l.byte-index l.fn.text) ≡ true → list_all is_plain_byte l.fn.text ≡ true;
}
