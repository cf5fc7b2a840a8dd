use Rattle.std.proofs.Common.{◌≡◌, ◌++◌, drop}
use Rattle.call_expansion.specs.Answers.{told_at}
use Rattle.call_expansion.proofs.answer.told_at.Given as goal

-- the faults so far, with those that are left
abbrev pub invariant-loop-fault : goal.invariant-loop-fault
invariant-loop-fault l = l.told.items ++ told_at l.name (drop l.fault-index l.faults) ≡ told_at l.name l.faults
