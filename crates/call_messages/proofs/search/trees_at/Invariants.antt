use Rattle.tt_data.specs.Forest.{size}
use Rattle.call_messages.proofs.search.trees_at.Given as goal

abbrev pub decreases-loop-rest : goal.decreases-loop-rest
decreases-loop-rest l = size l.rest
