use Rattle.expander_session.specs.LookupTrees.{branch_of}
use Rattle.expander_session.proofs.LookupTreeLemmas.{put_extends}
use Rattle.expander_session.proofs.lookup_tree.LookupTree.branch.Goals as goal

pub returns-clause-more : goal.returns-clause-more
unfolding branch_of
returns-clause-more c =
    put_extends _ _ c.args.at c.args.place c.args.known c.args.index c.requires.none (λ at place id. c.in_ok-insert.ensures.updates.0 (at, place, id))
