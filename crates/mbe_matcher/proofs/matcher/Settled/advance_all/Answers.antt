use Rattle.std.proofs.Common.{sym, ap, subst, ◌∙◌, [], ◌++◌, take, arith}
use Rattle.std.specs.List.{flat_map}
use Rattle.std.proofs.lemmas.List.{take_all}
use Rattle.mbe_matcher.specs.Places.{place_of}
use Rattle.mbe_matcher.specs.Settled.{Leads, IsSoundAt}
use Rattle.mbe_matcher.specs.Threads.{waits_at, waiting_at}
use Rattle.mbe_matcher.specs.Waiting.{settled_at, advanced_by}
use Rattle.mbe_matcher.proofs.AdvanceLemmas.{each-at, flat_map-take}
use Rattle.mbe_matcher.proofs.matcher.Settled.advance_all.Goals as goal

pub loop-w-preserved : goal.loop-w-preserved
loop-w-preserved g c = (
  c.in_ok-advance.ensures.done,
  (λ pattern each.
      let gr = g.G.FragmentGrammar.answer c.args.grammar.now in
      let p = place_of c.args.place.now in
      let ws = c.args.waiting.now in
      let i = c.loop-w.w-index in
      let next = advanced_by (settled_at gr) in
      let before = flat_map next (waits_at p (take i ws)) in
      subst (λ x. Leads gr pattern p x c.advance.new.self.waiting.items c.advance.new.self.seen [])
      (ap (λ w. before ++ next (waiting_at p w)) c.w-item.is ∙ sym (flat_map-take next (waiting_at p) ws i c.w-item.result c.loop-w-test.true))
      (c.in_ok-advance.ensures.all pattern before
      (subst (λ w. IsSoundAt pattern (waiting_at p w)) (sym c.w-item.is) (each-at (IsSoundAt pattern) (waiting_at p) ws i c.w-item.result each c.loop-w-test.true))
      (c.loop-w.invariant.1 pattern each))),
)

pub returns-clause-all : goal.returns-clause-all
returns-clause-all g c = λ pattern each.
    let gr = g.G.FragmentGrammar.answer c.args.grammar.now in
    let p = place_of c.args.place.now in
    subst (λ x. Leads gr pattern p (flat_map (advanced_by (settled_at gr)) (waits_at p x)) c.loop-w.self.waiting.items c.loop-w.self.seen [])
    (take_all c.loop-w.w-index c.args.waiting.now (omega (arith, c.loop-w-test.false))) (c.loop-w.invariant.1 pattern each)

pub advance-requires-clause-sound : goal.advance-requires-clause-sound
advance-requires-clause-sound g c =
    let p = place_of c.args.place.now in (
      c.requires.sound.0,
      subst (λ w. IsSoundAt c.requires.sound.0 (waiting_at p w)) (sym c.w-item.is)
          (each-at (IsSoundAt c.requires.sound.0) (waiting_at p) c.args.waiting.now c.loop-w.w-index c.w-item.result c.requires.sound.1 c.loop-w-test.true),
    )
