use Rattle.expander_model.specs.Faults.{fault_at}
use Rattle.expander_model.specs.declared.fault.FaultKind.TheVariants as as_kind
use Rattle.expander_session.proofs.PartLemmas.{mapped_done, mapped_more}
use Rattle.expander_session.proofs.emitter.tell_words.Goals as goal

pub loop-word-preserved : goal.loop-word-preserved
loop-word-preserved c =
    mapped_more (fault_at as_kind.NestedDefinition) c.args.words.now c.loop-word.word-index _ _ _ _ c.loop-word-test.true
    c.in_ok-push.ensures.items c.loop-word.invariant

pub returns : goal.returns
returns c = mapped_done (fault_at as_kind.NestedDefinition) c.args.words.now c.loop-word.word-index _ _ c.loop-word-test.false c.loop-word.invariant
