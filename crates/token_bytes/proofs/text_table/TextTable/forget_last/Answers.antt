-- The last text is taken out of its chain.
use Rattle.std.proofs.Common.{◌≡◌, ◌∙◌, ◌++◌, ◌∷◌, [], List, ℕ, ap, sym, refl, subst, arith, length}
use Rattle.token_bytes.specs.Numbers.{AreDistinct, AreLinked, AreMet, IsNumbered}
use Rattle.token_bytes.specs.declared.text_table.TextTable.{TextTable}
use Rattle.token_bytes.specs.Numbers.{AreLinkedIn}
use Rattle.token_bytes.proofs.DistinctLemmas.{distinct_front}
use Rattle.token_bytes.proofs.TableLemmas.{met_fewer}
use Rattle.token_bytes.proofs.text_table.TextTable.forget_last.Goals as goal

fewer : (old new : TextTable) (x : List ℕ) → IsNumbered old → old.texts.items ≡ new.texts.items ++ x ∷ [] → new.recent ≡ old.recent
    → AreLinkedIn new.chains new.texts.items → IsNumbered new
fewer old new x is parts same linked = record {
  distinct = distinct_front new.texts.items x (subst AreDistinct parts is.distinct);
  room = ap length same ∙ is.room;
  met = subst (λ r. AreMet r new.texts.items) (sym same) (met_fewer old.recent new.texts.items x (subst (AreMet old.recent) parts is.met));
  linked = linked;
}

pub returns-then-size-ne0-clause-numbered : goal.returns-then-size-ne0-clause-numbered
returns-then-size-ne0-clause-numbered c =
    fewer c.args.self.now _ c.in-Some.text c.requires.numbered c.in-Some.ensures.items refl
    (λ some. subst (AreLinked c.pop-then-size-ne0.new.self) c.as_slice.ensures.value c.pop-then-size-ne0.ensures.linked)

pub returns-clause-numbered : goal.returns-clause-numbered
returns-clause-numbered c =
    fewer c.args.self.now _ c.in-Some.text c.requires.numbered c.in-Some.ensures.items refl
    (λ some. absurd (omega (arith, some, c.if-size-ne0.false, c.size.ensures)))
