use Rattle.std.proofs.Common.{rules}
use Rattle.small_grammar.proofs.patterns.path_pattern.Goals as goal

pub returns : goal.returns
returns c = search rules
