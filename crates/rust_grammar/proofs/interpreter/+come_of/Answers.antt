use Rattle.std.proofs.Common.{◌∷◌, ℕ, refl, arith}
use Rattle.tt.specs.Views.{forest}
use Rattle.rust_grammar.specs.Frames.{frame}
use Rattle.rust_grammar.specs.Turns.{GoesOn}
use Rattle.rust_grammar.specs.declared.parts.Turn.TheVariants as turn
use Rattle.rust_grammar.proofs.TurnLemmas.{came, fewer_inside, within_node, still, begins, from_turn, ended}
use Rattle.rust_grammar.proofs.interpreter.+come_of.Goals as goal

-- a turn that has come, where there is no more room
came_there : (t : ℕ) (c : goal.After-come_of t) → GoesOn c.args.edition c.turns.turn c.turns.frames (turn.Came c.come_of.result) c.turns.frames
came_there t c =
    from_turn c.args.edition c.turns.turn (turn.Node c.in-Node.at c.in-Node.rest) c.turns.frames c.turns.frames _ _ c.in-Node.is refl
    (came c.args.edition c.in-Node.at (within_node c.in-Node.at c.in-Node.rest c.turns.turn c.in-Node.is c.turns.invariant.2) c.turns.frames c.in-Node.rest c.come_of.result c.come_of.ensures)

entered : (t : ℕ) (c : goal.After-descend-turn t) → GoesOn c.args.edition c.turns.turn c.turns.frames c.descend-turn.result c.descend-turn.new.frames
entered t c = from_turn c.args.edition c.turns.turn (turn.Node c.in-Node.at c.in-Node.rest) c.turns.frames c.turns.frames _ _ c.in-Node.is refl c.descend-turn.ensures

left : (t : ℕ) (c : goal.After-leave-turn t) → GoesOn c.args.edition c.turns.turn c.turns.frames c.leave-turn.result c.close.new.self
left t c =
    let last = c.in-Some.ensures.some in
    from_turn c.args.edition c.turns.turn (turn.Came c.in-Came.found) c.turns.frames (frame c.in-Some.at last.0 (forest c.in-Some.kept) ∷ c.close.new.self) _ _ c.in-Came.is last.1
    (c.leave-turn.ensures c.args.edition last.0 c.close.new.self)

pub turns-init : goal.turns-init
turns-init t c = begins c.args.edition c.args.start c.args.trees c.args.trees c.new-frames.result c.new-frames.ensures refl c.requires

pub come_of-requires : goal.come_of-requires
come_of-requires t c =
    let less = fewer_inside c.args.edition c.in-Node.at c.in-Node.rest c.turns.turn c.turns.frames c.in-Node.is c.if-is_full.ensures in
    (omega (arith, less, c.turns.invariant.1, c.decreases), within_node c.in-Node.at c.in-Node.rest c.turns.turn c.in-Node.is c.turns.invariant.2)

pub turns-smaller-then-is_full : goal.turns-smaller-then-is_full
turns-smaller-then-is_full t c = (came_there t c).fewer

pub turns-preserved-then-is_full : goal.turns-preserved-then-is_full
turns-preserved-then-is_full t c = still c.args.edition _ _ _ _ _ _ c.turns.invariant.0 c.turns.invariant.1 (came_there t c)

pub descend-turn-requires-clause-within : goal.descend-turn-requires-clause-within
descend-turn-requires-clause-within t c = within_node c.in-Node.at c.in-Node.rest c.turns.turn c.in-Node.is c.turns.invariant.2

pub turns-smaller-else-is_full : goal.turns-smaller-else-is_full
turns-smaller-else-is_full t c = (entered t c).fewer

pub turns-preserved-else-is_full : goal.turns-preserved-else-is_full
turns-preserved-else-is_full t c = still c.args.edition _ _ _ _ _ _ c.turns.invariant.0 c.turns.invariant.1 (entered t c)

pub turns-smaller : goal.turns-smaller
turns-smaller t c = (left t c).fewer

pub turns-preserved : goal.turns-preserved
turns-preserved t c = still c.args.edition _ _ _ _ _ _ c.turns.invariant.0 c.turns.invariant.1 (left t c)

pub returns-in-None : goal.returns-in-None
returns-in-None t c = ended c.args.edition c.turns.turn c.in-Came.found _ c.turns.frames c.in-Came.is c.in-None.ensures.none c.turns.invariant.0
