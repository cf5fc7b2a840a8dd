use Rattle.std.proofs.Common.{◌≡◌, ◌∙◌, ap, sym, subst, arith, length}
use Rattle.token_bytes.specs.Packed.{ArePacked}
use Rattle.token_bytes.specs.Marks.{mark_of}
use Rattle.token_bytes.proofs.MarkLemmas.{length-tokens_in, same_mark}
use Rattle.token_bytes.proofs.buffer.TokenBuffer.end.Goals as goal

pub returns : goal.returns
returns c =
    let bytes = c.self.inside.stored.records in
    let table = c.self.inside.stored.texts.texts.items in
    let packed : ArePacked c.args.self.now bytes table = subst (λ l. ArePacked l bytes table) c.self.view_is c.self.invariant.0 in
    let counted : c.self.inside.count ≡ length c.args.self.now = sym (length-tokens_in c.self.inside.count table bytes) ∙ ap length c.self.view_is in
    let texts : c.len.result ≡ length table = omega (arith, c.len.ensures, c.self.inside.stored.texts.texts.ok.0) in
    same_mark _ (mark_of c.args.self.now) counted (ap length (c.bytes.ensures ∙ packed.bytes_are)) (texts ∙ ap length packed.table_is)
