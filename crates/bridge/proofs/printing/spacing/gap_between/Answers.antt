use Rattle.std.proofs.Common.{rules}
use Rattle.bridge.proofs.printing.spacing.gap_between.Goals as goal

pub returns-then-ends_line : goal.returns-then-ends_line
returns-then-ends_line c = search rules

pub returns-then-are_joined : goal.returns-then-are_joined
returns-then-are_joined c = search rules

pub returns-else-are_joined : goal.returns-else-are_joined
returns-else-are_joined c = search rules
