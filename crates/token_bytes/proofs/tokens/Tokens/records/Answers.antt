use Rattle.std.proofs.Common.{ap, arith, length, option_map}
use Rattle.token_bytes.specs.Runs.{stored_size}
use Rattle.token_bytes.proofs.TokensLemmas.{at_below}
use Rattle.token_bytes.proofs.tokens.Tokens.records.Goals as goal

pub from-requires : goal.from-requires
from-requires c = omega (
  arith,
  at_below (option_map (λ s. s.now) c.args.self.stored) c.args.self.at c.args.self.count c.args.self.decoded c.requires,
  ap (λ o. stored_size (option_map (λ s. s.now) o)) c.in-Some.is,
  ap length c.bytes.ensures,
)
