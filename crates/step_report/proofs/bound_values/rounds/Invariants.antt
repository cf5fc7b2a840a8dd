use Rattle.std.proofs.Common.{◌≡◌, map, take}
use Rattle.serde_json.specs.View.{view}
use Rattle.call_json.specs.Places.{count}
use Rattle.step_report.specs.Bound.{told_number}
use Rattle.step_report.proofs.bound_values.rounds.Given as given

-- the numbers so far
abbrev pub invariant-loop-number : given.invariant-loop-number
invariant-loop-number l =
    map view l.list.items ≡ map count (map told_number (take l.number-index l.iterations))
