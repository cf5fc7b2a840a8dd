use Rattle.std.proofs.Common.{◌≡◌, map, take}
use Rattle.serde_json.specs.View.{view}
use Rattle.rule_bindings.specs.Given.{all_given}
use Rattle.step_report.specs.BoundValues.{binding}
use Rattle.step_report.proofs.bound_values.bindings.Given as given

-- the values so far
abbrev pub invariant-loop-value : given.invariant-loop-value
invariant-loop-value l =
    map view l.list.items ≡ map binding (all_given (take l.value-index l.values))
