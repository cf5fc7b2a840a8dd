use Rattle.std.proofs.Common.{refl}
use Rattle.token_bytes.specs.Items.{items}
use Rattle.token_bytes.proofs.tokens.Tokens.of.Goals as goal

pub returns-clause-items : goal.returns-clause-items
unfolding items
returns-clause-items c = refl

pub invariant_of-result : goal.invariant_of-result
invariant_of-result c = record { decoded = c.requires.decoded; known = (refl, c.requires.starts) }
