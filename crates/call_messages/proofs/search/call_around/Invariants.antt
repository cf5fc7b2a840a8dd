use Rattle.tt_data.specs.Forest.{size}
use Rattle.call_messages.proofs.search.call_around.Given as goal

abbrev pub decreases-loop-call : goal.decreases-loop-call
decreases-loop-call l = size l.rest
