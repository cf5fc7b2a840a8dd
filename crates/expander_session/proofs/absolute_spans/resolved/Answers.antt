use Rattle.std.proofs.Common.{rules}
use Rattle.expander_session.proofs.absolute_spans.resolved.Goals as goal

pub returns : goal.returns
returns c = search rules
