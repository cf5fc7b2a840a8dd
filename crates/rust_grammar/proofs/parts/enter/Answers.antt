use Rattle.rust_grammar.proofs.TurnLemmas.{sooner}
use Rattle.rust_grammar.proofs.parts.enter.Goals as goal

pub returns : goal.returns
returns c = sooner c.args.edition c.args.at c.deciding.result c.args.trees c.args.frames.now c.read.result c.read.new.frames c.deciding.ensures c.read.ensures
