use Rattle.std.proofs.Common.{rules}
use Rattle.expander_run.proofs.watched.Watched.new.Goals as goal

pub returns : goal.returns
returns c = search rules
