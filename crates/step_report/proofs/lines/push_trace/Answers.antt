use Rattle.std.proofs.Common.{◌≡◌, ◌<◌, ◌≤◌, List, ℕ, arith, flat_map, get_or, length, refl, string_bytes, subst}
use Rattle.std.specs.Prelude.{Bool, OnOk}
use Rattle.tt_data.specs.Forest.{Forest}
use Rattle.expander_trace.specs.Given.{step_in}
use Rattle.expander_trace.specs.Steps as spec
use Rattle.expander_trace.specs.declared.step.Step.{Step}
use Rattle.step_report.specs.Lines.{cut_if, step_lines}
use Rattle.step_report.specs.Bound.{context_by}
use Rattle.step_report.specs.Texts.{texts_in}
use Rattle.step_report.proofs.AskedLemmas.{all_steps, one_less, one_more}
use Rattle.step_report.proofs.lines.push_trace.Goals as goal

pub loop-step-preserved : goal.loop-step-preserved
loop-step-preserved g c =
    let steps = c.args.trace.now.steps.items in
    let i = c.loop-step.step-index in
    let x = c.step-item.result in
    let same = c.deref-step-items.ensures.value in
    let inside = subst (λ (ys : List Step). i < length ys) same c.loop-step-test.true in
    let here = subst (λ (ys : List Step). x ≡ get_or ys i x) same c.step-item.is in
    record {
      lines = one_more step_in c.args.asked steps i x c.loop-step.on c.is_asked-on.result inside
          here c.is_asked-on.ensures (step_lines (context_by (texts_in c.args.context.now.texts.now) (g.G.FragmentGrammar.answer c.args.context.now.grammar.now) c.args.context.now.edition))
          (string_bytes c.loop-step.out) (string_bytes c.push_asked.new.out) _
          c.loop-step.invariant.lines c.in_ok-push_asked.ensures;
      last = one_less step_in c.args.asked steps i x c.loop-step.on c.is_asked-on.result inside
          here c.is_asked-on.ensures _ c.loop-step.invariant.last;
    }

pub returns : goal.returns
returns g c =
    let i = c.loop-step.step-index in
    let F : List (spec.Step Forest) → List ℕ = flat_map (step_lines (context_by (texts_in c.args.context.now.texts.now) (g.G.FragmentGrammar.answer c.args.context.now.grammar.now) c.args.context.now.edition)) in
    subst (λ (bytes : List ℕ). OnOk c.push_cut.result (string_bytes c.push_cut.new.out ≡ bytes))
    (all_steps step_in c.args.asked c.args.trace.now.steps.items i
    c.loop-step.on F (λ (on : Bool). cut_if on c.args.trace.now.room.cut)
    (string_bytes c.loop-step.out) (string_bytes c.args.out.now) _ _
    (subst (λ (ys : List Step). length ys ≤ i) c.deref-step-items.ensures.value
    (omega (arith, c.loop-step-test.false))) refl c.loop-step.invariant.lines
    c.loop-step.invariant.last)
    c.push_cut.ensures
