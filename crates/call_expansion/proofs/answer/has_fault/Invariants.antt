use Rattle.std.proofs.Common.{◌≡◌, drop}
use Rattle.std.specs.List.{list_any}
use Rattle.tt_data.specs.declared.span.Span.{Span}
use Rattle.expander_model.specs.declared.fault.FaultKind.{FaultKind}
use Rattle.call_expansion.specs.Answers.{has_range}
use Rattle.call_expansion.proofs.answer.has_fault.Given as goal

-- none so far is at these bytes
abbrev pub invariant-loop-fault : goal.invariant-loop-fault
invariant-loop-fault l =
    list_any (λ (f : FaultKind × Span). has_range l.name f.1) (drop l.fault-index l.faults) ≡ list_any (λ (f : FaultKind × Span). has_range l.name f.1) l.faults
