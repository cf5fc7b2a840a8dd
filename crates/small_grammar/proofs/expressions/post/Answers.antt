use Rattle.std.proofs.Common.{rules}
use Rattle.small_grammar.specs.SmallGrammar.{post}
use Rattle.small_grammar.proofs.expressions.post.Goals as goal

pub returns : goal.returns
unfolding post
returns c = search rules
