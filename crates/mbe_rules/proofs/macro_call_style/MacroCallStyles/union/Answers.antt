use Rattle.std.proofs.Common.{rules}
use Rattle.mbe_rules.proofs.macro_call_style.MacroCallStyles.union.Goals as goal

pub returns : goal.returns
returns c = search rules
