use Rattle.std.proofs.Common.{subst, refl, append-nil}
use Rattle.mbe_matcher.specs.Places.{place_of}
use Rattle.mbe_matcher.specs.Ways.{IsWay}
use Rattle.mbe_matcher.proofs.DueLemmas.{alone-waits, stops-left, same-way, same-leads}
use Rattle.mbe_matcher.proofs.matcher.Settled.take_thread.Goals as goal

pub returns-in_ok-push-in-Waits-clause-all : goal.returns-in_ok-push-in-Waits-clause-all
returns-in_ok-push-in-Waits-clause-all g c = λ pattern all ts h.
    let gr = g.G.FragmentGrammar.answer c.args.grammar.now in
    let p = place_of c.args.place.now in
    let s = c.args.self.now in
    let w = subst (IsWay gr p c.args.thread) c.in-Waits.is c.in_ok-w.ensures in
    same-leads gr pattern p all _ c.push.new.self.items s.seen s.seen ts _ c.in_ok-push-in-Waits.ensures.items refl (append-nil ts)
    (alone-waits gr pattern p all s.waiting.items s.seen ts c.args.thread c.in-Waits.w w h)

pub returns-in-Stops-clause-all : goal.returns-in-Stops-clause-all
returns-in-Stops-clause-all g c = λ pattern all ts h.
    let gr = g.G.FragmentGrammar.answer c.args.grammar.now in
    let p = place_of c.args.place.now in
    let s = c.args.self.now in
    let w = subst (IsWay gr p c.args.thread) c.in-Stops.is c.in_ok-w.ensures in
    same-leads gr pattern p all s.waiting.items s.waiting.items s.seen s.seen ts _ refl refl (append-nil ts)
    (stops-left gr pattern p all s.waiting.items s.seen ts c.args.thread w h)

pub returns-in-Open-clause-all : goal.returns-in-Open-clause-all
returns-in-Open-clause-all g c = λ pattern all ts h.
    let gr = g.G.FragmentGrammar.answer c.args.grammar.now in
    let p = place_of c.args.place.now in
    let s = c.args.self.now in
    let w = subst (IsWay gr p c.args.thread) c.in-Open.is c.in_ok-w.ensures in
    same-way gr pattern p all s.waiting.items s.seen ts c.args.thread c.in-Open.thread w h

pub returns-in-Open-clause-good : goal.returns-in-Open-clause-good
returns-in-Open-clause-good g c =
    let gr = g.G.FragmentGrammar.answer c.args.grammar.now in
    let w = subst (IsWay gr (place_of c.args.place.now) c.args.thread) c.in-Open.is c.in_ok-w.ensures in
    let (N, good) = c.requires in
    (N, (w.0 N good).0)
