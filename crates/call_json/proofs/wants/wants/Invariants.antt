use Rattle.std.proofs.Common.{◌≡◌, ◌++◌, drop, map}
use Rattle.serde_json.specs.View.{view}
use Rattle.call_json.specs.Rules.{want}
use Rattle.call_json.proofs.wants.wants.Given as given

-- what is told so far and what is left are all
abbrev pub invariant-loop-one : given.invariant-loop-one
invariant-loop-one l =
    map view l.list.items ++ map (want l.text) (drop l.one-index l.wanted)
    ≡ map (want l.text) l.wanted
