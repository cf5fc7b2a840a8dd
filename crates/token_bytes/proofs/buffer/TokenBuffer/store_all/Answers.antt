use Rattle.std.proofs.Common.{ap, arith, length, length-append}
use Rattle.token_bytes.specs.Items.{items}
use Rattle.token_bytes.proofs.buffer.TokenBuffer.store_all.Goals as goal

pub store-requires : goal.store-requires
store-requires c = omega (
  arith,
  c.requires,
  ap length c.loop-token.invariant.0,
  length-append c.loop-token.self (items c.loop-token.rest),
  length-append c.args.self.now (items c.args.tokens),
  ap length c.in-Some.ensures,
)
