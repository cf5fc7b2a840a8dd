use Rattle.std.proofs.Common.{sym, ap, subst, ◌∙◌, [], ◌++◌, take, refl, arith}
use Rattle.std.specs.List.{flat_map}
use Rattle.std.proofs.lemmas.List.{take_all}
use Rattle.mbe_matcher.specs.Places.{place_of}
use Rattle.mbe_matcher.specs.Settled.{IsSoundAt}
use Rattle.mbe_matcher.specs.Waiting.{settled_at, advanced_by}
use Rattle.mbe_matcher.proofs.AdvanceLemmas.{each-at, flat_map-take}
use Rattle.mbe_explain.specs.Surveys.{Leads, comes_by, comes_of, waits_of}
use Rattle.mbe_explain.proofs.SurveyLemmas.{none-yet, same-leads}
use Rattle.mbe_explain.proofs.survey.Survey.advance_all.Goals as goal

pub loop-step-init : goal.loop-step-init
loop-step-init g c = (
  c.requires.tasks,
  (λ pattern each.
      let s = c.args.self.now in
      let gr = g.G.FragmentGrammar.answer c.args.grammar.now in
      let p = place_of c.args.place.now in
      same-leads gr pattern p [] [] s.waiting.items [] s.seen [] [] c.requires.waiting c.requires.seen refl (none-yet gr pattern p)),
)

pub loop-step-preserved : goal.loop-step-preserved
loop-step-preserved g c = (
  c.in_ok-advance.ensures.done,
  (λ pattern each.
      let gr = g.G.FragmentGrammar.answer c.args.grammar.now in
      let p = place_of c.args.place.now in
      let ss = c.args.steps.now in
      let i = c.loop-step.step-index in
      let next = advanced_by (settled_at gr) in
      let before = flat_map next (comes_of p (take i ss)) in
      let x = c.advance.new.self in
      subst (λ y. Leads gr pattern p y (waits_of p x.waiting.items) x.seen [])
      (ap (λ s. before ++ next (comes_by p s)) c.step-item.is ∙ sym (flat_map-take next (comes_by p) ss i c.step-item.result c.loop-step-test.true))
      (c.in_ok-advance.ensures.all pattern before
      (subst (λ s. IsSoundAt pattern (comes_by p s)) (sym c.step-item.is) (each-at (IsSoundAt pattern) (comes_by p) ss i c.step-item.result each c.loop-step-test.true))
      (c.loop-step.invariant.1 pattern each))),
)

pub returns-clause-all : goal.returns-clause-all
returns-clause-all g c = λ pattern each.
    let gr = g.G.FragmentGrammar.answer c.args.grammar.now in
    let p = place_of c.args.place.now in
    let x = c.loop-step.self in
    subst (λ ss. Leads gr pattern p (flat_map (advanced_by (settled_at gr)) (comes_of p ss)) (waits_of p x.waiting.items) x.seen [])
    (take_all c.loop-step.step-index c.args.steps.now (omega (arith, c.loop-step-test.false))) (c.loop-step.invariant.1 pattern each)

pub advance-requires-clause-sound : goal.advance-requires-clause-sound
advance-requires-clause-sound g c =
    let p = place_of c.args.place.now in (
      c.requires.sound.0,
      subst (λ s. IsSoundAt c.requires.sound.0 (comes_by p s)) (sym c.step-item.is)
          (each-at (IsSoundAt c.requires.sound.0) (comes_by p) c.args.steps.now c.loop-step.step-index c.step-item.result c.requires.sound.1 c.loop-step-test.true),
    )
