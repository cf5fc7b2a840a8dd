use Rattle.mbe_transcriber.proofs.LeafLemmas.{nothing-put}
use Rattle.mbe_transcriber.proofs.leaf.put_separator.Goals as goal

pub returns-in-None-clause-added : goal.returns-in-None-clause-added
returns-in-None-clause-added c = rw c.in-None.is (nothing-put c.args.out.now.tree)
