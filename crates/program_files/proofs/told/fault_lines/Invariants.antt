use Rattle.expander_run.specs.Spots.{IsSpot}
use Rattle.program_files.proofs.told.fault_lines.Given as goal

abbrev pub invariant-loop-fault : goal.invariant-loop-fault
invariant-loop-fault l = IsSpot l.text l.spot
