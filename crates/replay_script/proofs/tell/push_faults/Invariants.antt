use Rattle.std.proofs.Common.{◌≡◌, ◌++◌, drop, string_bytes}
use Rattle.replay_script.specs.Told.{fault_lines}
use Rattle.replay_script.proofs.tell.push_faults.Given as goal

abbrev pub invariant-loop-fault : goal.invariant-loop-fault
invariant-loop-fault l = string_bytes l.told ++ fault_lines (drop l.fault-index l.faults) ≡ string_bytes l.fn.told ++ fault_lines l.faults
