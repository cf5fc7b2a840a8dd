use Rattle.std.proofs.Common.{rules}
use Rattle.mbe_rules.proofs.errors.CountErrorDisplay.fmt.Goals as goal

pub returns-in-OutOfBounds : goal.returns-in-OutOfBounds
returns-in-OutOfBounds c = search rules

pub returns-in-Misplaced-clause-writes : goal.returns-in-Misplaced-clause-writes
returns-in-Misplaced-clause-writes c = search rules

pub returns-in-Misplaced-clause-styled : goal.returns-in-Misplaced-clause-styled
returns-in-Misplaced-clause-styled c = search rules
