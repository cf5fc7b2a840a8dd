use Rattle.std.proofs.Common.{◌≡◌, ◌≤◌, ◌<◌, true}
use Rattle.rust_grammar.specs.Frames.{behind_all, has_room}
use Rattle.rust_grammar.specs.Table.{comes_at}
use Rattle.rust_grammar.specs.Turns.{turns_left}
use Rattle.rust_grammar.specs.declared.parts.Turn.TheVariants as turn
use Rattle.rust_grammar.proofs.parts.descend.Given as goal

abbrev pub invariant-nodes : goal.invariant-nodes
invariant-nodes l =
    (behind_all l.edition l.frames (comes_at l.edition l.at.levels l.at.place l.rest) ≡ behind_all l.edition l.fn.frames (comes_at l.edition l.fn.start.levels l.fn.start.place l.fn.trees))
    × (turns_left l.edition (turn.Node l.at l.rest) l.frames ≤ turns_left l.edition (turn.Node l.fn.start l.fn.trees) l.fn.frames)
    × (l.at.place < 1564)
    × (has_room l.frames ≡ true)

abbrev pub decreases-nodes : goal.decreases-nodes
decreases-nodes l = turns_left l.edition (turn.Node l.at l.rest) l.frames
