use Rattle.std.proofs.Common.{rules}
use Rattle.tt_data.proofs.delimiter.DelimSpan.from_pair.Goals as goal

pub returns : goal.returns
returns c = search rules
