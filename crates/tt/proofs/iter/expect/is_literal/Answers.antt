use Rattle.std.proofs.Common.{rules}
use Rattle.tt.proofs.iter.expect.is_literal.Goals as goal

pub returns-in-Literal : goal.returns-in-Literal
returns-in-Literal c = search rules

pub returns-then-eq : goal.returns-then-eq
returns-then-eq c = search rules

pub returns-else-eq : goal.returns-else-eq
returns-else-eq c = search rules
