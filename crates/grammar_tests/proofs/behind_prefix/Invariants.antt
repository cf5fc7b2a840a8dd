use Rattle.std.proofs.Common.{◌≡◌, ◌+◌, ◌≤◌, length}
use Rattle.tt.specs.Places.{steps_before, steps_after}
use Rattle.tt.specs.Views.{forest}
use Rattle.tt_data.specs.Forest.{shape}
use Rattle.grammar_tests.proofs.behind_prefix.Given as goal

abbrev pub invariant-loop-left : goal.invariant-loop-left
invariant-loop-left g l =
    (l.left ≤ length (steps_after l.cursor))
    × (length (steps_before l.cursor) + l.left ≡ (g.G.FragmentGrammar.answer l.fn.grammar l.fn.entry (shape (forest l.fn.input))).tokens)

abbrev pub decreases-loop-left : goal.decreases-loop-left
decreases-loop-left g l = l.left
