use Rattle.std.proofs.Common.{sym, ap, subst, ◌∙◌, refl, ◌-◌, ◌++◌, arith}
use Rattle.mbe_matcher.specs.Settled.{IsSoundAt}
use Rattle.mbe_matcher.specs.Waiting.{Each}
use Rattle.mbe_matcher.proofs.AdvanceLemmas.{each-at}
use Rattle.mbe_explain.specs.Searches.{come_by, open_of}
use Rattle.mbe_explain.specs.Surveys.{HasEnd, comes_by}
use Rattle.mbe_explain.proofs.VisitLemmas.{entry-more, no-entries}
use Rattle.mbe_explain.proofs.survey.Survey.plan_entries.Goals as goal

pub loop-left-init : goal.loop-left-init
loop-left-init c = record {
  seen = refl;
  within = omega arith;
  due = λ p. ap (open_of p) c.requires ∙ sym (no-entries p c.args.steps.now);
  tasks = λ pattern p h. subst (Each (HasEnd p)) (sym c.requires) tt;
}

pub loop-left-preserved : goal.loop-left-preserved
loop-left-preserved c = record {
  seen = c.in_ok-plan_entry.ensures.seen ∙ c.loop-left.invariant.seen;
  within = omega (arith, c.loop-left.invariant.within);
  due = λ p.
      let s = c.index-steps-left.result in
      c.in_ok-plan_entry.ensures.due p ∙ ap (λ x. x ++ come_by p s) (c.loop-left.invariant.due p)
      ∙ entry-more p c.args.steps.now c.loop-left.left s c.index-steps-left.is c.loop-left-test.true c.loop-left.invariant.within;
  tasks = λ pattern p h.
      let s = c.index-steps-left.result in
      c.in_ok-plan_entry.ensures.tasks pattern p
      (subst (λ x. IsSoundAt pattern (comes_by p x)) (sym c.index-steps-left.is)
      (each-at (IsSoundAt pattern) (comes_by p) c.args.steps.now (c.loop-left.left - 1) s h (omega (arith, c.loop-left-test.true, c.loop-left.invariant.within))))
      (c.loop-left.invariant.tasks pattern p h);
}
