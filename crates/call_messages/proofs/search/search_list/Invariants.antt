use Rattle.tt_data.specs.Forest.{size}
use Rattle.call_messages.proofs.search.search_list.Given as goal

abbrev pub decreases-loop-piece : goal.decreases-loop-piece
decreases-loop-piece l = size l.rest
