use Rattle.std.proofs.Common.{rules}
use Rattle.tt_data.proofs.leaf.Ident.new.Goals as goal

pub returns-in_err-new-clause-ident : goal.returns-in_err-new-clause-ident
returns-in_err-new-clause-ident c = search rules

pub returns-clause-ident : goal.returns-clause-ident
returns-clause-ident c = search rules
