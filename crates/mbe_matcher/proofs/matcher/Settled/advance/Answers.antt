use Rattle.std.proofs.Common.{sym, subst, refl, [], ◌++◌, map}
use Rattle.mbe_matcher.specs.Places.{place_of}
use Rattle.mbe_matcher.specs.Readings.{room}
use Rattle.mbe_matcher.specs.Settled.{Leads, IsSoundAt}
use Rattle.mbe_matcher.specs.Threads.{moves_of, state_of, waiting_at}
use Rattle.mbe_matcher.specs.Waiting.{prefixed, settled_at, advanced_by}
use Rattle.mbe_matcher.proofs.DueLemmas.{more-due, more-ended, same-leads}
use Rattle.mbe_matcher.proofs.matcher.Settled.advance.Goals as goal

pub returns-in_ok-push-in-Ended-clause-all : goal.returns-in_ok-push-in-Ended-clause-all
returns-in_ok-push-in-Ended-clause-all g c = λ pattern all sound h.
    let gr = g.G.FragmentGrammar.answer c.args.grammar.now in
    let p = place_of c.args.place.now in
    let s = c.args.self.now in
    subst (λ w. Leads gr pattern p (all ++ advanced_by (settled_at gr) (waiting_at p w)) c.push.new.self.items s.seen []) (sym c.in-Ended.is)
    (same-leads gr pattern p _ _ c.push.new.self.items s.seen s.seen [] [] c.in_ok-push-in-Ended.ensures.items refl refl
    (more-ended gr pattern p all s.waiting.items s.seen c.in-Ended.moves h))

pub returns-in_ok-settle-in-Pending-clause-all : goal.returns-in_ok-settle-in-Pending-clause-all
returns-in_ok-settle-in-Pending-clause-all g c = λ pattern all sound h.
    let gr = g.G.FragmentGrammar.answer c.args.grammar.now in
    let p = place_of c.args.place.now in
    let s = c.args.self.now in
    let t = c.in-Pending.thread in
    let more = all ++ map (prefixed (moves_of t.moves)) (settled_at gr (state_of t p)) in
    subst (λ w. Leads gr pattern p (all ++ advanced_by (settled_at gr) (waiting_at p w)) c.settle.new.self.waiting.items c.settle.new.self.seen [])
    (sym c.in-Pending.is)
    (subst (λ ts. Leads gr pattern p more c.settle.new.self.waiting.items c.settle.new.self.seen ts) c.in_ok-settle-in-Pending.ensures.done
    (c.in_ok-settle-in-Pending.ensures.all pattern more
    (more-due gr pattern p all s.waiting.items s.seen t (subst (λ w. IsSoundAt pattern (waiting_at p w)) c.in-Pending.is sound) h)))

pub settle-requires-clause-good : goal.settle-requires-clause-good
settle-requires-clause-good g c =
    let sound = subst (λ w. IsSoundAt c.requires.sound.0 (waiting_at (place_of c.args.place.now) w)) c.in-Pending.is c.requires.sound.1 in
    (room c.requires.sound.0, sound.0)

pub returns-then-few-clause-all : goal.returns-then-few-clause-all
returns-then-few-clause-all g c = λ pattern all sound h.
    let gr = g.G.FragmentGrammar.answer c.args.grammar.now in
    let p = place_of c.args.place.now in
    let s = c.args.self.now in
    let t = c.in-Pending.thread in
    let more = all ++ map (prefixed (moves_of t.moves)) (settled_at gr (state_of t p)) in
    subst (λ w. Leads gr pattern p (all ++ advanced_by (settled_at gr) (waiting_at p w)) c.settle_clear.new.self.waiting.items c.settle_clear.new.self.seen [])
    (sym c.in-Pending.is)
    (subst (λ ts. Leads gr pattern p more c.settle_clear.new.self.waiting.items c.settle_clear.new.self.seen ts) c.in_ok-settle_clear-in-Pending.ensures.done
    (c.in_ok-settle_clear-in-Pending.ensures.all pattern more
    (more-due gr pattern p all s.waiting.items s.seen t (subst (λ w. IsSoundAt pattern (waiting_at p w)) c.in-Pending.is sound) h)))

pub settle_clear-requires-clause-good : goal.settle_clear-requires-clause-good
settle_clear-requires-clause-good g c =
    let sound = subst (λ w. IsSoundAt c.requires.sound.0 (waiting_at (place_of c.args.place.now) w)) c.in-Pending.is c.requires.sound.1 in
    (room c.requires.sound.0, sound.0)
