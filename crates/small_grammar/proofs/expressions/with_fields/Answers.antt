use Rattle.std.proofs.Common.{rules}
use Rattle.small_grammar.proofs.expressions.with_fields.Goals as goal

pub returns : goal.returns
returns c = search rules
