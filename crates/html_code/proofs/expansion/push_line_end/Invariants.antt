use Rattle.std.proofs.Common.{◌≡◌, ◌++◌, ◌-◌, string_bytes}
use Rattle.html_code.specs.ExpansionParts.{blanks}
use Rattle.html_code.proofs.expansion.push_line_end.Given as goal

abbrev pub invariant-loop : goal.invariant-loop
invariant-loop l = string_bytes l.page ++ blanks (l.end - l.counter) ≡ string_bytes l.initial.page ++ blanks l.end
