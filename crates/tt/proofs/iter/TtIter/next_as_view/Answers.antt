use Rattle.tt.proofs.Steps.{passed_one, alone_of}
use Rattle.tt.proofs.iter.TtIter.next_as_view.Goals as goal

pub passed_since-requires : goal.passed_since-requires
passed_since-requires c = passed_one _ _ _ _ c.remaining-before.ensures c.in_ok-_tree.ensures.steps

pub returns-clause-tree : goal.returns-clause-tree
returns-clause-tree c = alone_of _ _ _ _ _ c.remaining-before.ensures c.in_ok-_tree.ensures.steps c.passed_since.ensures
