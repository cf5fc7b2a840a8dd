use Rattle.std.proofs.Common.{arith, map}
use Rattle.serde_json.specs.View.{view}
use Rattle.session_workspace.proofs.FaultLemmas.{more_shown}
use Rattle.session_workspace.proofs.diagnostics.fault_diagnostics.Goals as goal

pub loop-fault-preserved : goal.loop-fault-preserved
loop-fault-preserved c = record {
  so_far = more_shown c.args.text.now c.args.faults.now c.loop-fault.fault-index _
      (map view c.loop-fault.all.items) (map view c.push_fault.new.all.items) (omega arith)
      c.loop-fault.invariant.so_far c.in_ok-last.ensures.added;
  spot = c.in_ok-last.ensures.spot;
}
