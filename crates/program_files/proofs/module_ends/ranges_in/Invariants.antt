-- The ranges so far, and those that are left.
use Rattle.std.proofs.Common.{◌≡◌, ◌++◌}
use Rattle.bridge.specs.PrintedRanges.{read_ranges}
use Rattle.program_files.proofs.module_ends.ranges_in.Given as goal

abbrev pub invariant-loop-range : goal.invariant-loop-range
invariant-loop-range l = l.all.items ++ l.range-iterator ≡ read_ranges l.expansion.printed
