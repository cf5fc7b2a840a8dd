use Rattle.bridge.proofs.PieceLemmas.{same_tree}
use Rattle.bridge.proofs.piece_tree.whole.Goals as goal

pub returns-in-Ok-clause-ok : goal.returns-in-Ok-clause-ok
returns-in-Ok-clause-ok c = λ u is. same_tree c.in-Ok.tree u c.args.tokens.items c.in-Ok.ensures.ok is
