use Rattle.std.proofs.Common.{◌≡◌, ◌++◌, string_bytes}
use Rattle.std.specs.Prelude.{encode_utf8_all}
use Rattle.std.specs.List.{flat_map}
use Rattle.html_code.specs.Escaping.{escape_of}
use Rattle.html_code.proofs.escape.push_escaped.Given as goal

abbrev pub invariant-loop-c : goal.invariant-loop-c
invariant-loop-c l = string_bytes l.page ≡ string_bytes l.initial.page ++ encode_utf8_all (flat_map escape_of l.yielded)
