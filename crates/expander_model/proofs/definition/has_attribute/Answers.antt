use Rattle.std.proofs.Common.{◌∙◌, ap, sym}
use Rattle.std.specs.Prelude.{is_some}
use Rattle.expander_model.proofs.AttributeLemmas.{other_attribute}
use Rattle.expander_model.proofs.definition.has_attribute.Goals as goal

pub loop-inner-preserved : goal.loop-inner-preserved
loop-inner-preserved c =
    sym (other_attribute c.args.word.now c.loop-inner.rest c.in-Some.inner c.in-Some.after (sym c.first_attribute.ensures ∙ c.in-Some.is)
    (ap is_some (sym c.after_word.ensures) ∙ sym c.is_some.ensures ∙ c.if-is_some.false))
    ∙ c.loop-inner.invariant
