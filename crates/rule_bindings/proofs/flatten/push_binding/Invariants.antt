-- The values so far and those that are left are all.
use Rattle.std.proofs.Common.{◌≡◌, ◌+◌, ◌++◌, [], option_map}
use Rattle.mbe_matcher.specs.Bound.{standing_for}
use Rattle.rule_bindings.specs.BoundValues.{values_in}
use Rattle.rule_bindings.specs.Given.{all_given}
use Rattle.rule_bindings.specs.Open.{left_values, weight_around, weight_of}
use Rattle.rule_bindings.proofs.flatten.push_binding.Given as given

abbrev pub invariant-loop-here : given.invariant-loop-here
invariant-loop-here l =
    all_given l.found.items
    ++ left_values l.name l.around.items (option_map (λ b. standing_for b.now) l.here)
    ≡ all_given l.initial.found.items ++ values_in l.name [] (standing_for l.binding)

abbrev pub decreases-loop-here : given.decreases-loop-here
decreases-loop-here l =
    weight_of (option_map (λ b. standing_for b.now) l.here) + weight_around l.around.items
