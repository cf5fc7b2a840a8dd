use Rattle.std.proofs.Common.{rules}
use Rattle.small_grammar.proofs.grammar.behind.Goals as goal

pub returns-in-Vis : goal.returns-in-Vis
returns-in-Vis c = search rules
