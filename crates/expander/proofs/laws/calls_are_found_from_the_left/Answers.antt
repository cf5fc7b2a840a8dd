use Rattle.expander.proofs.FirstCallLemmas.{first_call_is}
use Rattle.expander.proofs.laws.calls_are_found_from_the_left.Goals as goal

pub returns : goal.returns
returns c = first_call_is
