use Rattle.std.proofs.Common.{◌≡◌, ◌++◌, drop, string_bytes}
use Rattle.std.specs.Prelude.{map}
use Rattle.expander_run.specs.Spots.{IsSpot}
use Rattle.expansion_page.specs.Pages.{fault_line}
use Rattle.expansion_page.proofs.told.lines_of.Given as goal

abbrev pub invariant-loop-fault : goal.invariant-loop-fault
invariant-loop-fault l = record {
  lines : map string_bytes l.lines.items ++ map (fault_line l.text) (drop l.fault-index l.faults) ≡ map (fault_line l.text) l.faults;
  spot : IsSpot l.text l.spot;
}
