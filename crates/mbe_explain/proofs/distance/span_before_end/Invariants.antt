use Rattle.std.proofs.Common.{◌≡◌, ◌-◌}
use Rattle.std.specs.Prelude.{slice_get}
use Rattle.fragment_grammar.specs.Steps.{steps}
use Rattle.tt.specs.Places.{steps_after}
use Rattle.tt.specs.Views.{forest}
use Rattle.tt_data.specs.Walk.{walk}
use Rattle.mbe_explain.proofs.distance.span_before_end.Given as goal

-- what comes after the steps that are still to be passed
abbrev pub invariant-loop-passed : goal.invariant-loop-passed
invariant-loop-passed l =
    slice_get (steps_after l.cursor) l.passed ≡ slice_get (walk (forest l.fn.argument)) (steps (forest l.fn.argument) - l.left)

abbrev pub decreases-loop-passed : goal.decreases-loop-passed
decreases-loop-passed l = l.passed
