use Rattle.std.proofs.Common.{rules}
use Rattle.bridge.proofs.reading.close_innermost.Goals as goal

pub returns-in-Some : goal.returns-in-Some
returns-in-Some c = search rules
