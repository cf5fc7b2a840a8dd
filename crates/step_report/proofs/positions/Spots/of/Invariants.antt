use Rattle.std.proofs.Common.{All}
use Rattle.step_report.specs.Spots.{IsSpot}
use Rattle.step_report.proofs.positions.Spots.of.Given as given

-- the last spot and those so far are of the text
abbrev pub invariant-loop : given.invariant-loop
invariant-loop l = IsSpot l.text l.last × All (IsSpot l.text) l.list.items
