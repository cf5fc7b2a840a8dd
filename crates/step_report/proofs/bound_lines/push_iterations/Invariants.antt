use Rattle.std.proofs.Common.{◌≡◌, ◌++◌, drop, flat_map, string_bytes}
use Rattle.step_report.specs.BoundLines.{dotted}
use Rattle.step_report.proofs.bound_lines.push_iterations.Given as given

-- the numbers so far and those that are left are all
abbrev pub invariant-loop-number : given.invariant-loop-number
invariant-loop-number l =
    string_bytes l.out ++ flat_map dotted (drop l.number-index l.inner)
    ≡ string_bytes l.initial.out ++ flat_map dotted l.inner
