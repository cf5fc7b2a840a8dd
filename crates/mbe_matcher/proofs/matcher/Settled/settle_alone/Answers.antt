use Rattle.std.proofs.Common.{◌≡◌, sym, subst, ◌∷◌, []}
use Rattle.mbe_matcher.specs.Places.{place_of}
use Rattle.mbe_matcher.specs.Readings.{room}
use Rattle.mbe_matcher.specs.Settled.{Leads}
use Rattle.mbe_matcher.specs.Threads.{moves_of, state_of}
use Rattle.mbe_matcher.specs.Ways.{LeadsAlone}
use Rattle.mbe_matcher.specs.declared.matcher.SettleTask.TheVariants.{GoOn}
use Rattle.mbe_matcher.proofs.DueLemmas.{as_choice}
use Rattle.mbe_matcher.proofs.WayLemmas.{follows-sound}
use Rattle.mbe_matcher.proofs.matcher.Settled.settle_alone.Goals as goal

pub settle_open-requires-clause-good : goal.settle_open-requires-clause-good
settle_open-requires-clause-good g c =
    let gr = g.G.FragmentGrammar.answer c.args.grammar.now in
    let t = c.args.thread in
    let s = state_of t (place_of c.args.place.now) in
    let v = c.in-Open.next in
    let q = place_of c.go_alone.new.place in
    let (pattern, sound) = c.requires.sound in
    let f = subst (LeadsAlone gr (moves_of t.moves) s q) c.in-Open.is c.in_ok-alone.ensures in
    (room pattern, (follows-sound gr pattern (moves_of t.moves) s (moves_of v.moves) (state_of v q) f sound).0.0)

pub returns-in_ok-settle_open-in-Open-clause-all : goal.returns-in_ok-settle_open-in-Open-clause-all
returns-in_ok-settle_open-in-Open-clause-all g c = λ pattern all t h e.
    let gr = g.G.FragmentGrammar.answer c.args.grammar.now in
    let q = place_of c.go_alone.new.place in
    let s = c.args.self.now in
    let n = c.settle_open.new.self in
    let same : c.in-Open.next ≡ t = cc in
    subst (λ ts. Leads gr pattern q all n.waiting.items n.seen ts) c.in_ok-settle_open-in-Open.ensures.done
    (c.in_ok-settle_open-in-Open.ensures.all pattern all
    (subst (λ v. Leads gr pattern q all s.waiting.items s.seen (GoOn (as_choice v) ∷ [])) (sym same) h))
