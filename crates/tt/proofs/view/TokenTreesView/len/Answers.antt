use Rattle.std.proofs.Common.{ap, length, ◌∙◌, sym}
use Rattle.tt_data.specs.Forest.{forest_of}
use Rattle.tt_data.specs.Flat.{length-preorder}
use Rattle.token_bytes.specs.Items.{items}
use Rattle.tt.specs.Views.{forest}
use Rattle.tt.proofs.view.TokenTreesView.len.Goals as goal

pub returns-clause-len : goal.returns-clause-len
unfolding forest
returns-clause-len c =
    c.len.ensures.len ∙ ap length (sym c.args.self.now.whole) ∙ length-preorder (forest_of (items c.args.self.now.tokens))
