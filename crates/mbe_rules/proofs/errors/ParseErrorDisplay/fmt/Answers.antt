use Rattle.std.proofs.Common.{rules}
use Rattle.mbe_rules.proofs.errors.ParseErrorDisplay.fmt.Goals as goal

pub returns-in-Expected : goal.returns-in-Expected
returns-in-Expected c = search rules

pub returns-in-InvalidRepeat : goal.returns-in-InvalidRepeat
returns-in-InvalidRepeat c = search rules
