use Rattle.std.proofs.Common.{◌-◌, ◌≤◌}
use Rattle.step_report.specs.Spots.{IsSpot}
use Rattle.step_report.proofs.positions.walked.Given as given

-- the spot so far is one of the text, and not past the end
abbrev pub invariant-loop-spot : given.invariant-loop-spot
invariant-loop-spot l = record {
  spot : IsSpot l.text l.spot;
  before : l.spot.at ≤ l.to;
}

abbrev pub decreases-loop-spot : given.decreases-loop-spot
decreases-loop-spot l = l.to - l.spot.at
