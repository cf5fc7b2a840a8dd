use Rattle.std.proofs.Common.{refl, reverse}
use Rattle.tt.proofs.Held.{kinds_of}
use Rattle.tt.proofs.top_subtree.builder.TopSubtreeBuilder.expected_delimiters.Goals as goal

pub returns : goal.returns
returns c =
    rw (← c.self.view_is, c.as_slice.ensures.value, kinds_of c.self.inside.tokens (reverse c.self.inside.openings.items)) refl
