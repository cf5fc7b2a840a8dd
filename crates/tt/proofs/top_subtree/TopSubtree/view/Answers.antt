use Rattle.std.proofs.Common.{refl}
use Rattle.tt.specs.Views.{top_of}
use Rattle.tt.proofs.Groups.{group_of}
use Rattle.tt.proofs.top_subtree.TopSubtree.view.Goals as goal

pub invariant_of-result : goal.invariant_of-result
invariant_of-result c =
    let g = group_of c.self.inside.tokens c.self.invariant.0 in
    rw c.tokens-tokens.ensures (record { whole = g.whole; one = rw g.all_is refl })

pub returns : goal.returns
unfolding top_of
returns c = rw (c.tokens-tokens.ensures, ← c.self.view_is, (group_of c.self.inside.tokens c.self.invariant.0).all_is) refl
