use Rattle.std.proofs.Common.{rules}
use Rattle.tt_data.proofs.leaf.IdentIsRaw.split_from_symbol.Goals as goal

pub returns-in-Some : goal.returns-in-Some
returns-in-Some c = search rules

pub returns-in-None : goal.returns-in-None
returns-in-None c = search rules
