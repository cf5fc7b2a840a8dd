use Rattle.std.proofs.Common.{◌≡◌, map, take}
use Rattle.serde_json.specs.Data.{string}
use Rattle.serde_json.specs.View.{view}
use Rattle.step_report.proofs.note_values.strings.Given as given

-- the names so far
abbrev pub invariant-loop-name : given.invariant-loop-name
invariant-loop-name l =
    map view l.list.items ≡ map string (map (λ n. n.now) (take l.name-index l.names))
