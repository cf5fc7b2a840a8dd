use Rattle.std.proofs.Common.{ap, arith, length, subst}
use Rattle.std.proofs.lemmas.Bool.{false≢true}
use Rattle.token_bytes.specs.Packed.{ArePacked}
use Rattle.token_bytes.proofs.EqualLemmas.{by_parts, same_lists}
use Rattle.token_bytes.proofs.MarkLemmas.{length-tokens_in}
use Rattle.token_bytes.proofs.buffer.TokenBuffer.is_equal.Goals as goal

pub returns-then-self-other : goal.returns-then-self-other
returns-then-self-other c = same_lists _ c.args.self.now c.args.other.now (λ e. absurd (false≢true e)) (λ e.
    let one = length-tokens_in c.self.inside.count c.self.inside.stored.texts.texts.items c.self.inside.stored.records in
    let two = length-tokens_in c.other.inside.count c.other.inside.stored.texts.texts.items c.other.inside.stored.records in
    absurd (omega (arith, c.if-self-other.true, one, two, ap length c.self.view_is, ap length c.other.view_is, ap length e)))

pub returns : goal.returns
returns c =
    let bytes = c.self.inside.stored.records in
    let table = c.self.inside.stored.texts.texts.items in
    let others = c.other.inside.stored.records in
    let texts = c.other.inside.stored.texts.texts.items in
    by_parts c.args.self.now c.args.other.now c.self.inside.count c.other.inside.count bytes others table texts c.is_same.result
    c.self.view_is c.other.view_is
    (subst (λ l. ArePacked l bytes table) c.self.view_is c.self.invariant.0)
    (subst (λ l. ArePacked l others texts) c.other.view_is c.other.invariant.0)
    (omega (arith, c.if-self-other.false)) c.is_same.ensures
