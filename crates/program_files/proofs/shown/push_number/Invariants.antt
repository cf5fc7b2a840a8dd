use Rattle.std.proofs.Common.{◌≡◌, ◌++◌, string_bytes}
use Rattle.std.specs.Prelude.{encode_utf8_all}
use Rattle.std.specs.Char.Iter.{escape_rest}
use Rattle.std.specs.Char.Escape.{escape_unicode}
use Rattle.program_files.proofs.shown.push_number.Given as goal

-- what is left of the escape comes behind
abbrev pub invariant-loop-digit : goal.invariant-loop-digit
invariant-loop-digit l =
    string_bytes l.line ++ encode_utf8_all (escape_rest l.digit-iterator) ≡ string_bytes l.fn.line ++ encode_utf8_all (escape_unicode l.fn.c)
