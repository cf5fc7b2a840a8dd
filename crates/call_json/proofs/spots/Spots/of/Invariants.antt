use Rattle.std.proofs.Common.{All}
use Rattle.line_index.specs.Lines.{IsSpot}
use Rattle.call_json.proofs.spots.Spots.of.Given as given

-- the last spot and those so far are of the text
abbrev pub invariant-loop : given.invariant-loop
invariant-loop l = IsSpot l.text l.last × All (IsSpot l.text) l.list.items
