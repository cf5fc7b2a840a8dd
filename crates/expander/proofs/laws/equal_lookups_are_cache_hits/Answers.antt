use Rattle.expander.proofs.ReplyLawLemmas.{same_does_not_count}
use Rattle.expander.proofs.laws.equal_lookups_are_cache_hits.Goals as goal

pub returns : goal.returns
returns c = same_does_not_count c.equal_pieces.ensures
