use Rattle.std.proofs.Common.{◌≡◌, ◌<◌, ◌≤◌, List, arith, get_or, length, subst}
use Rattle.expander_trace.specs.Given.{step_in}
use Rattle.expander_trace.specs.declared.step.Step.{Step}
use Rattle.step_report.specs.Faults.{stays}
use Rattle.step_report.proofs.AskedLemmas.{all_any, one_more_any}
use Rattle.step_report.proofs.faults.trace_stays.Goals as goal

pub loop-step-preserved : goal.loop-step-preserved
loop-step-preserved c =
    let i = c.loop-step.step-index in
    let x = c.step-item.result in
    let same = c.deref-step-items.ensures.value in
    one_more_any step_in c.args.asked c.args.trace.now.steps.items i x c.loop-step.on
    c.is_asked-on.result (subst (λ (ys : List Step). i < length ys) same c.loop-step-test.true)
    (subst (λ (ys : List Step). x ≡ get_or ys i x) same c.step-item.is) c.is_asked-on.ensures
    stays c.loop-step.found c.or_stays-found.result _ c.loop-step.invariant c.or_stays-found.ensures

pub returns : goal.returns
returns c =
    let i = c.loop-step.step-index in
    all_any step_in c.args.asked c.args.trace.now.steps.items i c.loop-step.on stays
    c.loop-step.found _ (subst (λ (ys : List Step). length ys ≤ i) c.deref-step-items.ensures.value
    (omega (arith, c.loop-step-test.false))) c.loop-step.invariant
