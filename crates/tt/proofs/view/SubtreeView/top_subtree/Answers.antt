use Rattle.tt.specs.Views.{top_of}
use Rattle.tt.proofs.RecordLemmas.{head_there, head_missing}
use Rattle.tt.proofs.view.SubtreeView.top_subtree.Goals as goal

pub returns : goal.returns
unfolding top_of
returns c = head_there _ c.args.self.now.whole c.args.self.now.one _ _ c.in-Some.ensures

pub unreachable-requires : goal.unreachable-requires
unreachable-requires c = head_missing _ c.args.self.now.whole c.args.self.now.one c.in-None.ensures
