use Rattle.std.proofs.Common.{◌≡◌, ◌+◌, ◌-◌, refl, arith, reverse}
use Rattle.tt_data.specs.Forest.{size}
use Rattle.tt.specs.Building.{count_in}
use Rattle.tt.specs.BuilderTokens.{here_of, groups_of}
use Rattle.tt.proofs.Limits.{counted}
use Rattle.tt.proofs.top_subtree.builder.TopSubtreeBuilder.len.Goals as goal

pub returns : goal.returns
returns c =
    let tokens = c.self.inside.tokens in
    let openings = reverse c.self.inside.openings.items in
    let below : c.len.result - 1 ≡ size (here_of tokens openings) + count_in (groups_of tokens openings) =
    omega (arith, c.len.ensures, counted tokens openings c.self.invariant.0) in
    rw (← c.self.view_is, below) refl
