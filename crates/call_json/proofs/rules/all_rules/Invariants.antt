use Rattle.std.proofs.Common.{◌≡◌, ◌++◌, drop, map}
use Rattle.serde_json.specs.View.{view}
use Rattle.call_json.specs.Rules.{rule}
use Rattle.call_json.proofs.rules.all_rules.Given as given

-- what is told so far and what is left are all
abbrev pub invariant-loop-stop : given.invariant-loop-stop
invariant-loop-stop l =
    map view l.list.items ++ map (rule l.text l.call) (drop l.stop-index l.stops)
    ≡ map (rule l.text l.call) l.stops
