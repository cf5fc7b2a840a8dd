use Rattle.std.proofs.Common.{sym, subst, ◌∙◌, IfSome}
use Rattle.mbe_matcher.specs.Places.{place_of}
use Rattle.mbe_matcher.specs.Threads.{moves_of, state_of}
use Rattle.mbe_matcher.specs.Ways.{IsOnly}
use Rattle.mbe_matcher.specs.declared.step.Waiting.TheVariants.{Ended, Pending}
use Rattle.mbe_matcher.proofs.WayLemmas.{leads-itself, leads-on, leads-alone, ended-alone, no-move-waits, only-waits, only-leads, only-falls}
use Rattle.mbe_matcher.proofs.thread.Thread.way.Goals as goal

pub loop-now-init : goal.loop-now-init
loop-now-init g c = leads-itself (g.G.FragmentGrammar.answer c.args.grammar.now) (moves_of c.args.self.now.moves) (state_of c.args.self.now (place_of c.args.place.now))

pub returns-then-has_ended : goal.returns-then-has_ended
returns-then-has_ended g c =
    let gr = g.G.FragmentGrammar.answer c.args.grammar.now in
    let p = place_of c.args.place.now in
    let t = c.loop-now.now in
    leads-alone gr p c.args.self.now t (Ended t.moves) c.loop-now.invariant (ended-alone gr p t (sym c.has_ended.ensures ∙ c.if-has_ended.true))

pub returns-then-is_over : goal.returns-then-is_over
returns-then-is_over g c = λ N good.
    let gr = g.G.FragmentGrammar.answer c.args.grammar.now in
    let t = c.loop-now.now in
    let x = c.loop-now.invariant.0 N good in
    x.1 ∙ no-move-waits gr (moves_of t.moves) (state_of t (place_of c.args.place.now)) N x.0 (c.is_over.ensures c.if-is_over.true)

pub loop-now-smaller : goal.loop-now-smaller
loop-now-smaller g c =
    let gr = g.G.FragmentGrammar.answer c.args.grammar.now in
    let p = place_of c.args.place.now in
    let t = c.loop-now.now in
    let one = subst (λ o. IfSome o (λ x. IsOnly gr p t x)) c.in-Some.is c.in_ok-choice.ensures in
    let (N, good) = c.requires in
    only-falls gr p t c.in-Some.choice N one (c.loop-now.invariant.0 N good).0 c.in_default-taken.is

pub loop-now-preserved : goal.loop-now-preserved
loop-now-preserved g c =
    let gr = g.G.FragmentGrammar.answer c.args.grammar.now in
    let p = place_of c.args.place.now in
    let s = c.args.self.now in
    let t = c.loop-now.now in
    let v = c.in-Some.choice.thread in
    let one = subst (λ o. IfSome o (λ x. IsOnly gr p t x)) c.in-Some.is c.in_ok-choice.ensures in
    leads-on gr (moves_of s.moves) (moves_of t.moves) (moves_of v.moves) (state_of s p) (state_of t p) (state_of v p) c.loop-now.invariant
    (only-leads gr p t c.in-Some.choice one (sym c.has_ended.ensures ∙ c.if-has_ended.false) c.in_default-taken.is)

pub returns-in-loop-now : goal.returns-in-loop-now
returns-in-loop-now g c =
    let gr = g.G.FragmentGrammar.answer c.args.grammar.now in
    let p = place_of c.args.place.now in
    let t = c.loop-now.now in
    let one = subst (λ o. IfSome o (λ x. IsOnly gr p t x)) c.in-Some.is c.in_ok-choice.ensures in
    leads-alone gr p c.args.self.now t (Pending c.in-Some.choice.thread c.in-Some-taken.taken) c.loop-now.invariant
    (only-waits gr p t c.in-Some.choice c.in-Some-taken.taken one (sym c.has_ended.ensures ∙ c.if-has_ended.false) c.in-Some-taken.is)
