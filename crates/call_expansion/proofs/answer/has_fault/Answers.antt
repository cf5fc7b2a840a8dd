use Rattle.std.proofs.Common.{◌∙◌, sym}
use Rattle.tt_data.specs.declared.span.Span.{Span}
use Rattle.expander_model.specs.declared.fault.FaultKind.{FaultKind}
use Rattle.call_expansion.specs.Answers.{has_range}
use Rattle.call_expansion.proofs.ListLemmas.{any_here, any_later, any_none}
use Rattle.call_expansion.proofs.answer.has_fault.Goals as goal

pub returns-then-has_range : goal.returns-then-has_range
returns-then-has_range c =
    sym (any_here (λ (f : FaultKind × Span). has_range c.args.name f.1) c.args.faults.now c.loop-fault.fault-index _ c.loop-fault-test.true
    (sym c.has_range.ensures ∙ c.if-has_range.true))
    ∙ c.loop-fault.invariant

pub loop-fault-preserved : goal.loop-fault-preserved
loop-fault-preserved c =
    sym (any_later (λ (f : FaultKind × Span). has_range c.args.name f.1) c.args.faults.now c.loop-fault.fault-index _ c.loop-fault-test.true
    (sym c.has_range.ensures ∙ c.if-has_range.false))
    ∙ c.loop-fault.invariant

pub returns : goal.returns
returns c =
    sym (any_none (λ (f : FaultKind × Span). has_range c.args.name f.1) c.args.faults.now c.loop-fault.fault-index c.loop-fault-test.false) ∙ c.loop-fault.invariant
