use Rattle.tt_data.specs.Forest.{size}
use Rattle.call_messages.proofs.search.group_around.Given as goal

abbrev pub decreases-loop-leaf : goal.decreases-loop-leaf
decreases-loop-leaf l = size l.rest
