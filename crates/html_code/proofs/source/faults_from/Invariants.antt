use Rattle.std.proofs.Common.{◌≡◌, ◌-◌, ◌≤◌, drop, length}
use Rattle.html_code.specs.SourceParts.{faults_from}
use Rattle.html_code.proofs.source.faults_from.Given as goal

abbrev pub invariant-loop-from : goal.invariant-loop-from
invariant-loop-from l = record {
  within : l.from ≤ length l.faults;
  same : faults_from (drop l.from l.faults) l.stop ≡ faults_from l.faults l.stop;
}

abbrev pub decreases-loop-from : goal.decreases-loop-from
decreases-loop-from l = length l.faults - l.from
