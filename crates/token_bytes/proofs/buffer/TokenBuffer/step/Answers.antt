-- The next record says how far it goes.
use Rattle.std.proofs.Common.{refl, arith}
use Rattle.token_bytes.proofs.MarkLemmas.{stepped_in}
use Rattle.token_bytes.proofs.buffer.TokenBuffer.step.Goals as goal

pub from-requires : goal.from-requires
from-requires c =
    let s = stepped_in c.args.at c.args.self.now _ _ _ _ _ c.self.invariant.0 c.self.view_is c.requires.mark c.requires.more c.bytes.ensures refl in
    s.within

pub first_extent-next-requires : goal.first_extent-next-requires
first_extent-next-requires c =
    let s = stepped_in c.args.at c.args.self.now _ _ _ _ _ c.self.invariant.0 c.self.view_is c.requires.mark c.requires.more c.bytes.ensures c.from.ensures.bytes in
    s.whole

pub overflow_add-result : goal.overflow_add-result
overflow_add-result c = omega (arith, c.requires.more, c.len-len.ensures)

pub overflow_add-result-2 : goal.overflow_add-result-2
overflow_add-result-2 c =
    let s = stepped_in c.args.at c.args.self.now _ _ _ _ _ c.self.invariant.0 c.self.view_is c.requires.mark c.requires.more c.bytes.ensures c.from.ensures.bytes in
    omega (arith, s.fits, c.first_extent-next.ensures.size)

pub returns : goal.returns
returns c =
    let s = stepped_in c.args.at c.args.self.now _ _ _ _ _ c.self.invariant.0 c.self.view_is c.requires.mark c.requires.more c.bytes.ensures c.from.ensures.bytes in
    s.mark _ refl (omega (arith, c.first_extent-next.ensures.size)) (omega (arith, c.first_extent-next.ensures.texts, c.max.ensures))
