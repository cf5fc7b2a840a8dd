use Rattle.std.proofs.Common.{rules}
use Rattle.expander_session.proofs.absolute_spans.tell_if_broken.Goals as goal

pub returns-then-is_none : goal.returns-then-is_none
returns-then-is_none c = search rules
