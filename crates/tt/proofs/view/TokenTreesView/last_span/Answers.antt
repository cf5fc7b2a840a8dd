use Rattle.std.proofs.Common.{ap, ◌∙◌, sym, Some}
use Rattle.tt.specs.Views.{forest}
use Rattle.tt.proofs.GroupLemmas.{last_of}
use Rattle.tt.proofs.RecordLemmas.{no_last}
use Rattle.tt.proofs.view.TokenTreesView.last_span.Goals as goal

pub returns-in-Leaf : goal.returns-in-Leaf
unfolding forest
returns-in-Leaf c =
    ap Some c.span.ensures ∙ last_of _ _ c.args.self.now.whole (ap Some (sym c.in-Leaf.is) ∙ c.in_ok-leaf.ensures)

pub returns-in-Subtree : goal.returns-in-Subtree
unfolding forest
returns-in-Subtree c = last_of _ _ c.args.self.now.whole (ap Some (sym c.in-Subtree.is) ∙ c.in_ok-leaf.ensures)

pub returns-in_err-leaf : goal.returns-in_err-leaf
unfolding forest
returns-in_err-leaf c = c.from_residual.ensures ∙ no_last _ c.args.self.now.whole c.in_err-leaf.ensures
