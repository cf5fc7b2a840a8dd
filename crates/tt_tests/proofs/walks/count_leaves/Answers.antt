use Rattle.tt_tests.proofs.WalkLemmas.{count_begins}
use Rattle.tt_tests.proofs.walks.count_leaves.Goals as goal

pub loop-token-init : goal.loop-token-init
loop-token-init c = (tt, tt, count_begins _ _ _ _ c.len-count.ensures.len c.iter_flat_tokens-token-items.ensures c.into_iter-token-iterator.ensures.into_iter_gives)
