use Rattle.std.proofs.Common.{◌≡◌, ◌++◌, length}
use Rattle.tt_data.specs.Walk.{walk}
use Rattle.tt.specs.Places.{steps_before, steps_after}
use Rattle.tt.specs.Views.{forest}
use Rattle.tt_tests.proofs.walks.passed.Given as goal

-- what is passed and what is left are all steps
abbrev pub invariant-loop-cursor : goal.invariant-loop-cursor
invariant-loop-cursor l = steps_before l.cursor ++ steps_after l.cursor ≡ walk (forest l.fn.trees)

abbrev pub decreases-loop-cursor : goal.decreases-loop-cursor
decreases-loop-cursor l = length (steps_after l.cursor)
