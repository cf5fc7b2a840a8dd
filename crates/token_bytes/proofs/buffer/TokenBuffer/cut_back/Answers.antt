-- The first tokens' records and texts come first.
use Rattle.std.proofs.Common.{◌/◌, arith, subst, sym, take}
use Rattle.token_bytes.specs.Starts.{AreStarts}
use Rattle.token_bytes.proofs.MarkLemmas.{held_first}
use Rattle.token_bytes.proofs.StartLemmas.{starts_cut, starts_held}
use Rattle.token_bytes.proofs.buffer.TokenBuffer.cut_back.Goals as goal

pub invariant_of-self : goal.invariant_of-self
invariant_of-self c =
    let left = held_first c.args.mark _ _ _ _ _ _ c.self.invariant.0 c.self.view_is c.requires c.cut_back.ensures c.cut_back-2.ensures.table in
    let starts = subst (AreStarts 64 c.self.inside.stored.starts.items) c.self.view_is c.self.invariant.2 in
    let fewer = starts_cut (c.args.mark.count / 64) 64 c.args.mark.count c.self.inside.stored.starts.items c.args.self.now (omega arith) starts in
    let cut = subst (λ l. AreStarts 64 l (take c.args.mark.count c.args.self.now)) (sym c.truncate.ensures.items) fewer in
    (left.packed, c.cut_back-2.ensures.numbered, starts_held (take c.args.mark.count c.args.self.now) _ _ _ _ left cut)

pub returns : goal.returns
returns c = (held_first c.args.mark _ _ _ _ _ _ c.self.invariant.0 c.self.view_is c.requires c.cut_back.ensures c.cut_back-2.ensures.table).shown
