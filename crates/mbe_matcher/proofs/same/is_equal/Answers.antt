-- Bytes that differ at one index, or in number, are not equal.
use Rattle.std.proofs.Common.{arith}
use Rattle.mbe_matcher.proofs.SameLemmas.{more-same, all-same, other-length, other-byte}
use Rattle.mbe_matcher.proofs.same.is_equal.Goals as goal

pub returns-then-first-second : goal.returns-then-first-second
returns-then-first-second c = other-length c.args.first.now c.args.second.now c.if-first-second.true

pub returns-then-byte-second : goal.returns-then-byte-second
returns-then-byte-second c = other-byte c.args.first.now c.args.second.now c.loop-i.i _ _ c.loop-i-test.true c.if-byte-second.true

pub loop-i-preserved : goal.loop-i-preserved
loop-i-preserved c =
    let same = c.if-first-second.false in
    more-same c.args.first.now c.args.second.now c.loop-i.i _ _ c.loop-i-test.true (omega (arith, c.loop-i-test.true, same)) c.if-byte-second.false c.loop-i.invariant

pub returns : goal.returns
returns c =
    let same = c.if-first-second.false in
    all-same c.args.first.now c.args.second.now c.loop-i.i c.loop-i-test.false (omega (arith, c.loop-i-test.false, same)) c.loop-i.invariant
