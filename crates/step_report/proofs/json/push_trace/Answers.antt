use Rattle.std.proofs.Common.{◌≡◌, ◌<◌, ◌≤◌, ◌∙◌, List, arith, get_or, length, refl, string_bytes, subst}
use Rattle.std.specs.Prelude.{Bool}
use Rattle.expander_trace.specs.Given.{step_in}
use Rattle.expander_trace.specs.declared.step.Step.{Step}
use Rattle.step_report.specs.Json.{cut_if, state_of, step_lines}
use Rattle.step_report.specs.Bound.{context_by}
use Rattle.step_report.specs.Texts.{texts_in}
use Rattle.step_report.proofs.AskedLemmas.{all_counted, all_steps, one_less, one_more_counted}
use Rattle.step_report.proofs.AskedLemmas.{one_more_numbered}
use Rattle.step_report.proofs.json.push_trace.Goals as goal

pub loop-step-preserved : goal.loop-step-preserved
loop-step-preserved g c =
    let steps = c.args.trace.now.steps.items in
    let i = c.loop-step.step-index in
    let x = c.step-item.result in
    let same = c.deref-step-items.ensures.value in
    let inside = subst (λ (ys : List Step). i < length ys) same c.loop-step-test.true in
    let here = subst (λ (ys : List Step). x ≡ get_or ys i x) same c.step-item.is in
    let old = state_of c.loop-step.numbering in
    let new = state_of c.push_asked.new.numbering in
    record {
      lines = one_more_numbered step_in c.args.asked steps i x c.loop-step.on c.is_asked-on.result
          inside here c.is_asked-on.ensures (context_by (texts_in c.args.context.now.texts.now) (g.G.FragmentGrammar.answer c.args.context.now.grammar.now) c.args.context.now.edition) old new
          (string_bytes c.loop-step.out) (string_bytes c.push_asked.new.out) _
          c.loop-step.invariant.lines c.in_ok-push_asked.ensures.lines
          c.in_ok-push_asked.ensures.state;
      last = one_less step_in c.args.asked steps i x c.loop-step.on c.is_asked-on.result inside
          here c.is_asked-on.ensures _ c.loop-step.invariant.last;
      next = one_more_counted step_in c.args.asked steps i x c.loop-step.on c.is_asked-on.result
          inside here c.is_asked-on.ensures old new _ c.loop-step.invariant.next
          c.in_ok-push_asked.ensures.state;
    }

pub returns-clause-lines : goal.returns-clause-lines
returns-clause-lines g c =
    let i = c.loop-step.step-index in
    c.in_ok-push_cut.ensures
    ∙ all_steps step_in c.args.asked c.args.trace.now.steps.items i c.loop-step.on
    (step_lines (context_by (texts_in c.args.context.now.texts.now) (g.G.FragmentGrammar.answer c.args.context.now.grammar.now) c.args.context.now.edition) (state_of c.loop-step.numbering))
    (λ (on : Bool). cut_if on c.args.trace.now.room.cut) (string_bytes c.loop-step.out)
    (string_bytes c.args.out.now) _ _
    (subst (λ (ys : List Step). length ys ≤ i) c.deref-step-items.ensures.value
    (omega (arith, c.loop-step-test.false))) refl c.loop-step.invariant.lines
    c.loop-step.invariant.last

pub returns-clause-next : goal.returns-clause-next
returns-clause-next g c =
    let i = c.loop-step.step-index in
    all_counted step_in c.args.asked c.args.trace.now.steps.items i c.loop-step.on
    c.loop-step.numbering.next _
    (subst (λ (ys : List Step). length ys ≤ i) c.deref-step-items.ensures.value
    (omega (arith, c.loop-step-test.false))) c.loop-step.invariant.next
