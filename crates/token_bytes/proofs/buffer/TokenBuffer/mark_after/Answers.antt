-- Token by token.
use Rattle.std.proofs.Common.{◌≤◌, ◌+◌, arith, length}
use Rattle.token_bytes.proofs.MarkLemmas.{mark_on}
use Rattle.token_bytes.proofs.buffer.TokenBuffer.mark_after.Goals as goal

pub loop-at-init : goal.loop-at-init
loop-at-init c = (c.requires.from, c.requires.later)

pub step-at-requires-clause-mark : goal.step-at-requires-clause-mark
step-at-requires-clause-mark c = c.loop-at.invariant.0

pub step-at-requires-clause-more : goal.step-at-requires-clause-more
step-at-requires-clause-more c = omega (arith, c.requires.within, c.loop-at-test.true)

pub loop-at-preserved : goal.loop-at-preserved
loop-at-preserved c =
    let fits : c.loop-at.at.count + 1 ≤ length c.args.self.now = omega (arith, c.requires.within, c.loop-at-test.true) in
    let on = mark_on c.loop-at.at _ _ _ fits c.step-at.ensures in
    (on.0, omega (arith, on.1, c.loop-at-test.true))

pub returns-clause-marked : goal.returns-clause-marked
returns-clause-marked c = c.loop-at.invariant.0

pub returns-clause-count : goal.returns-clause-count
returns-clause-count c = omega (arith, c.loop-at.invariant.1, c.loop-at-test.false)
