use Rattle.std.proofs.Common.{rules}
use Rattle.tt_data.proofs.display.LeafRefDisplay.fmt.Goals as goal

pub returns-in-Punct : goal.returns-in-Punct
returns-in-Punct c = search rules

pub returns-in-Ident : goal.returns-in-Ident
returns-in-Ident c = search rules
