use Rattle.std.proofs.Common.{◌≡◌, ◌++◌, drop, map}
use Rattle.expander_model.specs.Faults.{fault_at}
use Rattle.expander_model.specs.declared.fault.FaultKind.TheVariants as as_kind
use Rattle.expander_session.proofs.emitter.tell_words.Given as goal

abbrev pub invariant-loop-word : goal.invariant-loop-word
invariant-loop-word l =
    l.nested.items ++ map (fault_at as_kind.NestedDefinition) (drop l.word-index l.words) ≡ l.initial.nested.items ++ map (fault_at as_kind.NestedDefinition) l.words
