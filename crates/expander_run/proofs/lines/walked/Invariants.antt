use Rattle.std.proofs.Common.{◌-◌, ◌≤◌}
use Rattle.expander_run.specs.Spots.{IsSpot}
use Rattle.expander_run.proofs.lines.walked.Given as goal

abbrev pub invariant-loop-spot : goal.invariant-loop-spot
invariant-loop-spot l = record {
  spot : IsSpot l.text l.spot;
  before : l.spot.at ≤ l.to;
}

abbrev pub decreases-loop-spot : goal.decreases-loop-spot
decreases-loop-spot l = l.to - l.spot.at
