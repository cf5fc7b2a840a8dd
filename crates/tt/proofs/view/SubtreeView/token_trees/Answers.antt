use Rattle.tt.specs.Views.{forest, top_of}
use Rattle.tt.proofs.RecordLemmas.{inside_whole, inside_trees, head_missing}
use Rattle.tt.proofs.view.SubtreeView.token_trees.Goals as goal

pub invariant_of-result : goal.invariant_of-result
invariant_of-result c = record { whole = inside_whole _ c.args.self.now.whole c.args.self.now.one _ _ c.in-Some.ensures }

pub returns : goal.returns
unfolding forest top_of
returns c = inside_trees _ c.args.self.now.whole c.args.self.now.one _ _ c.in-Some.ensures

pub unreachable-requires : goal.unreachable-requires
unreachable-requires c = head_missing _ c.args.self.now.whole c.args.self.now.one c.in-None.ensures
