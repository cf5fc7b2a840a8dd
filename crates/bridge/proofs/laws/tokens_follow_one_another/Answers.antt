use Rattle.bridge.proofs.OrderLemmas.{part_follows, stands, text_follows}
use Rattle.bridge.proofs.laws.tokens_follow_one_another.Goals as goal

pub returns-clause-text : goal.returns-clause-text
returns-clause-text c = λ text f u read. text_follows text f (c.token_lengths.ensures.whole text u) (c.token_lengths.ensures.positive text u) read

pub returns-clause-part : goal.returns-clause-part
returns-clause-part c = part_follows

pub returns-clause-piece : goal.returns-clause-piece
returns-clause-piece c = stands
