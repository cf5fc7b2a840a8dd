use Rattle.std.proofs.Common.{rules}
use Rattle.bridge.proofs.printing.spacing.ends_line.Goals as goal

pub returns-in-Mark : goal.returns-in-Mark
returns-in-Mark c = search rules

pub returns-in-Other : goal.returns-in-Other
returns-in-Other c = search rules

pub returns-in-ClosingBrace : goal.returns-in-ClosingBrace
returns-in-ClosingBrace c = search rules
