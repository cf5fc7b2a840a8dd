use Rattle.std.proofs.Common.{refl, arith}
use Rattle.rust_grammar.proofs.parts.descend.Goals as goal

pub nodes-init : goal.nodes-init
nodes-init c = (refl, omega arith, c.requires.within, c.requires.room)
