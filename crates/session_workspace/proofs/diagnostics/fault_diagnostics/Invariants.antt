use Rattle.std.specs.Prelude.{◌≡◌, map, take}
use Rattle.serde_json.specs.View.{view}
use Rattle.session_workspace.specs.Diagnostics.{faults_shown}
use Rattle.session_workspace.specs.Ranges.{IsSpot}
use Rattle.session_workspace.proofs.diagnostics.fault_diagnostics.Given as given

-- those of the faults so far, and the spot of the last of them
abbrev pub invariant-loop-fault : given.invariant-loop-fault
invariant-loop-fault l = record {
  so_far : map view l.all.items ≡ faults_shown l.text (take l.fault-index l.faults);
  spot : IsSpot l.text l.last;
}
