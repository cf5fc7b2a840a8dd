use Rattle.std.proofs.Common.{refl, ap, ◌∙◌}
use Rattle.rust_grammar.specs.Table.{node_at}
use Rattle.rust_grammar.specs.declared.outcome.Outcome.TheVariants.{Fits}
use Rattle.rust_grammar.proofs.TurnLemmas.{left_out}
use Rattle.rust_grammar.proofs.parts.if_left_out.Goals as goal

pub returns-then-misses : goal.returns-then-misses
returns-then-misses c = λ ed. ap Fits c.copied.ensures ∙ left_out ed c.args.at c.args.trees.now (node_at c.args.at.place) refl c.requires.within c.requires.node (c.misses.ensures c.if-misses.true ed)
