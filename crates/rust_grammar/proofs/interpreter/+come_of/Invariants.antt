use Rattle.std.proofs.Common.{◌≡◌, ◌≤◌}
use Rattle.rust_grammar.specs.Frames.{behind_all, turns_at}
use Rattle.rust_grammar.specs.Table.{comes_at}
use Rattle.rust_grammar.specs.Turns.{comes_in, turns_left, IsWithin}
use Rattle.rust_grammar.proofs.interpreter.+come_of.Given as goal

-- the turns for the node: one that is read where there is no more room takes fewer
abbrev pub decreases-come_of : goal.decreases-come_of
decreases-come_of l = turns_at l.edition l.start.levels l.start.place l.trees

abbrev pub invariant-turns : goal.invariant-turns
invariant-turns l =
    (behind_all l.edition l.frames (comes_in l.edition l.turn) ≡ comes_at l.edition l.fn.start.levels l.fn.start.place l.fn.trees)
    × (turns_left l.edition l.turn l.frames ≤ turns_at l.edition l.fn.start.levels l.fn.start.place l.fn.trees)
    × IsWithin l.turn

abbrev pub decreases-turns : goal.decreases-turns
decreases-turns l = turns_left l.edition l.turn l.frames
