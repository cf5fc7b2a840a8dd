use Rattle.std.proofs.Common.{rules}
use Rattle.bridge.proofs.printing.state.empty_state_in.Goals as goal

pub returns : goal.returns
returns c = search rules
