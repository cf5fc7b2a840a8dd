use Rattle.std.proofs.Common.{rules}
use Rattle.tt_data.proofs.delimiter.Delimiter.invisible_delim_spanned.Goals as goal

pub returns : goal.returns
returns c = search rules
