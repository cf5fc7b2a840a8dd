-- The text is met, and linked where there are chains.
use Rattle.std.proofs.Common.{◌≡◌, ◌∙◌, ◌%◌, ◌<◌, ap, sym, subst, arith, length}
use Rattle.std.proofs.lemmas.List.{length-set}
use Rattle.token_bytes.specs.Numbers.{AreDistinct, AreLinkedIn, AreMet, class_of}
use Rattle.token_bytes.proofs.DistinctLemmas.{distinct_push}
use Rattle.token_bytes.proofs.TableLemmas.{met_more}
use Rattle.token_bytes.proofs.text_table.TextTable.append.Goals as goal

pub returns-in-Ok-clause-numbered : goal.returns-in-Ok-clause-numbered
returns-in-Ok-clause-numbered c =
    let old = c.args.self.now in
    let table = old.texts.items in
    let recent = old.recent in
    let k = c.recent_class.result in
    let v = c.shortened.result in
    let is = c.requires.numbered in
    let parts = c.in_ok-push.ensures.items in
    let class : k ≡ class_of 64 c.args.text = c.recent_class.ensures.class ∙ ap (λ m. m % 64) c.requires.mix in
    let below : k < length recent = omega (arith, c.recent_class.ensures.within, is.room) in
    record {
      distinct = subst AreDistinct (sym parts) (distinct_push c.args.text table is.distinct c.requires.absent);
      room = length-set recent k v ∙ is.room;
      met = subst (AreMet _) (sym parts) (met_more recent table c.args.text k v is.met class below c.shortened.ensures);
      linked = subst (AreLinkedIn c.chain_last.new.chains) c.as_slice.ensures.value c.in-Ok.ensures.ok;
    }
