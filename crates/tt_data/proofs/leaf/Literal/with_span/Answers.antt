use Rattle.std.proofs.Common.{rules}
use Rattle.tt_data.proofs.leaf.Literal.with_span.Goals as goal

pub returns : goal.returns
returns c = search rules
