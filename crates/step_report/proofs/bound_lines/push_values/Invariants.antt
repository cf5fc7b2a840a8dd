use Rattle.std.proofs.Common.{◌≡◌, ◌++◌, drop, flat_map, string_bytes}
use Rattle.rule_bindings.specs.Given.{all_given}
use Rattle.step_report.specs.BoundLines.{value_line}
use Rattle.step_report.specs.Texts.{texts_in}
use Rattle.step_report.proofs.bound_lines.push_values.Given as given

-- the lines so far and those of the values that are left are all
abbrev pub invariant-loop-value : given.invariant-loop-value
invariant-loop-value l =
    string_bytes l.out
    ++ flat_map (value_line (texts_in l.texts) l.level) (all_given (drop l.value-index l.values))
    ≡ string_bytes l.initial.out
    ++ flat_map (value_line (texts_in l.texts) l.level) (all_given l.values)
