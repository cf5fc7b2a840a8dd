use Rattle.std.proofs.Common.{◌+◌, ◌-◌, ◌*◌}
use Rattle.rust_grammar.specs.Turns.{IsAsGood}
use Rattle.rust_grammar.proofs.parts.deciding.Given as goal

abbrev pub invariant-nodes : goal.invariant-nodes
invariant-nodes l = IsAsGood l.fn.first l.trees l.at

abbrev pub decreases-nodes : goal.decreases-nodes
decreases-nodes l = l.at.levels * 2000 + (1564 - l.at.place)
