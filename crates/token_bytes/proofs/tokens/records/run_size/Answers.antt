use Rattle.std.proofs.Common.{arith, length-drop}
use Rattle.token_bytes.specs.Records.{first_size}
use Rattle.token_bytes.proofs.TokensLemmas.{run_next}
use Rattle.token_bytes.proofs.tokens.records.run_size.Goals as goal

pub from-rest-requires : goal.from-rest-requires
from-rest-requires c =
    let n = run_next c.loop-left.left c.args._table.now c.loop-left.rest.now (omega (arith, c.loop-left-test.true)) c.loop-left.invariant.0 in
    omega (arith, n.begins.whole, c.first_size-first.ensures)

pub loop-left-preserved : goal.loop-left-preserved
loop-left-preserved c =
    let n = run_next c.loop-left.left c.args._table.now c.loop-left.rest.now (omega (arith, c.loop-left-test.true)) c.loop-left.invariant.0 in
    rw (c.from-rest.ensures.bytes, c.first_size-first.ensures) (
      n.decoded,
      omega (arith, n.size, c.loop-left.invariant.1),
      omega (arith, n.begins.whole, length-drop (first_size c.loop-left.rest.now) c.loop-left.rest.now, c.loop-left.invariant.2),
    )
