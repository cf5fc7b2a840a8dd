use Rattle.std.proofs.Common.{arith, option_map, sym}
use Rattle.token_bytes.proofs.TokensLemmas.{count_fits, length-items}
use Rattle.token_bytes.proofs.tokens.Tokens.len.Goals as goal

pub returns-clause-len : goal.returns-clause-len
returns-clause-len c = sym (length-items c.args.self)

pub returns-clause-fits : goal.returns-clause-fits
returns-clause-fits c = omega (
  arith,
  count_fits (option_map (λ s. s.now) c.args.self.stored) c.args.self.at c.args.self.count c.args.self.decoded,
  c.stored_size-bytes.ensures.size,
  c.stored_size-bytes.ensures.fits,
)
