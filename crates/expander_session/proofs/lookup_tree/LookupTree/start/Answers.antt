use Rattle.std.specs.Rc.{rc_with_value}
use Rattle.expander_session.specs.LookupTrees.{first_of}
use Rattle.expander_session.proofs.LookupTreeLemmas.{start_here, start_keeps}
use Rattle.expander_session.proofs.lookup_tree.LookupTree.start.Goals as goal

pub returns-clause-first : goal.returns-clause-first
unfolding first_of
returns-clause-first c =
    start_keeps c.equal_trees.ensures _ _ c.args.tree.value c.args.index c.requires.none (λ t. c.in_ok-insert.ensures.updates.0 (rc_with_value c.args.tree t))

pub returns-clause-here : goal.returns-clause-here
unfolding first_of
returns-clause-here c =
    start_here c.equal_trees.ensures _ _ c.args.tree.value c.args.index (λ t. c.in_ok-insert.ensures.updates.0 (rc_with_value c.args.tree t))
