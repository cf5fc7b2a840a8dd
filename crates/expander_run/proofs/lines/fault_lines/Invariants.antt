use Rattle.std.proofs.Common.{◌≡◌, ◌++◌, drop, string_bytes}
use Rattle.expander_run.specs.Lines.{fault_lines}
use Rattle.expander_run.specs.Spots.{IsSpot}
use Rattle.expander_run.proofs.lines.fault_lines.Given as goal

abbrev pub invariant-loop-fault : goal.invariant-loop-fault
invariant-loop-fault l = record {
  lines : string_bytes l.lines ++ fault_lines l.text (drop l.fault-index l.faults) ≡ fault_lines l.text l.faults;
  spot : IsSpot l.text l.spot;
}
