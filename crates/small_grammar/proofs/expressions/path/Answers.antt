use Rattle.std.proofs.Common.{rules}
use Rattle.small_grammar.specs.SmallGrammar.{path}
use Rattle.small_grammar.proofs.expressions.path.Goals as goal

pub returns : goal.returns
unfolding path
returns c = search rules
