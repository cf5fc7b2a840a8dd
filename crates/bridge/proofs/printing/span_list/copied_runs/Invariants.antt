use Rattle.std.proofs.Common.{◌≡◌, ◌++◌, drop, map}
use Rattle.bridge.specs.SpanLists.{of_run}
use Rattle.bridge.proofs.printing.span_list.copied_runs.Given as goal

abbrev pub invariant-loop-run : goal.invariant-loop-run
invariant-loop-run l = map of_run l.copy.items ++ map of_run (drop l.run-index l.runs) ≡ map of_run l.runs
