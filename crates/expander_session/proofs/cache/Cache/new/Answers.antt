use Rattle.expander_session.proofs.CacheLemmas.{nothing}
use Rattle.expander_session.proofs.cache.Cache.new.Goals as goal

pub returns-clause-right : goal.returns-clause-right
returns-clause-right c = λ world edition depth.
    nothing _ c.new.ensures.items c.new-2.ensures.items c.new-3.ensures.items c.new-4.ensures c.new-5.ensures.right c.new-6.ensures.items world edition depth
