use Rattle.std.proofs.Common.{◌≡◌, ℕ, List, [], ◌++◌, length}
use Rattle.std.specs.Fmt.{HasWritten, IsPlainFormatter}
use Rattle.tt_data.specs.Walk.{walk}
use Rattle.tt.specs.Places.{steps_after}
use Rattle.tt.specs.Styles.{touches_in, space_if}
use Rattle.tt.specs.Texts.{text_after}
use Rattle.tt.specs.Views.{forest}
use Rattle.tt.proofs.display.write_all.Given as goal

-- what is written, and the text of the events left, are the text of all
abbrev pub invariant-loop-cursor : goal.invariant-loop-cursor
invariant-loop-cursor g l =
    IsPlainFormatter l.fn.f → (done : List ℕ) × HasWritten g.W.Write.write_str_gives l.fn.f done l.f
    × (done ++ text_after (touches_in l.fn.style) (space_if l.spaced) (steps_after l.cursor) ≡ text_after (touches_in l.fn.style) [] (walk (forest l.fn.trees)))

abbrev pub decreases-loop-cursor : goal.decreases-loop-cursor
decreases-loop-cursor g l = length (steps_after l.cursor)
