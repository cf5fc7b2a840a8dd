use Rattle.std.proofs.Common.{sym, subst, ◌<◌, Some, arith}
use Rattle.mbe_matcher.specs.Places.{place_of, place_after}
use Rattle.mbe_matcher.specs.Readings.{room}
use Rattle.mbe_matcher.specs.Rounds.{WaitsAlone}
use Rattle.mbe_matcher.specs.Threads.{moves_of, state_of, is_trees}
use Rattle.mbe_matcher.specs.Units.{left}
use Rattle.mbe_matcher.specs.Ways.{Follows, stays, leads, goes_on, IsWay}
use Rattle.mbe_matcher.proofs.WayLemmas.{follows-on, follows-sound, waits-lower}
use Rattle.mbe_matcher.proofs.thread.Thread.go_alone.Goals as goal

pub loop-now-init : goal.loop-now-init
loop-now-init g c = stays

pub way-requires : goal.way-requires
way-requires g c =
    let gr = g.G.FragmentGrammar.answer c.args.grammar.now in
    let x = c.args.self.now in
    let s = state_of x (place_of c.args.place.now) in
    let l = c.loop-now.now in
    let t = c.pass_rounds.new.self in
    let p = place_of c.pass_rounds.new.place in
    let (pattern, sound) = c.requires in
    let a = follows-sound gr pattern (moves_of x.moves) s (moves_of l.moves) (state_of l (place_of c.loop-now.place)) c.loop-now.invariant sound in
    let b = follows-sound gr pattern (moves_of l.moves) (state_of l (place_of c.loop-now.place)) (moves_of t.moves) (state_of t p) c.in_ok-pass_rounds.ensures a.0 in
    (room pattern, b.0.0)

pub loop-now-smaller : goal.loop-now-smaller
loop-now-smaller g c =
    let gr = g.G.FragmentGrammar.answer c.args.grammar.now in
    let x = c.args.self.now in
    let s = state_of x (place_of c.args.place.now) in
    let l = c.loop-now.now in
    let t = c.pass_rounds.new.self in
    let p = place_of c.pass_rounds.new.place in
    let (pattern, sound) = c.requires in
    let a = follows-sound gr pattern (moves_of x.moves) s (moves_of l.moves) (state_of l (place_of c.loop-now.place)) c.loop-now.invariant sound in
    let b = follows-sound gr pattern (moves_of l.moves) (state_of l (place_of c.loop-now.place)) (moves_of t.moves) (state_of t p) c.in_ok-pass_rounds.ensures a.0 in
    let v = c.in-Pending.thread in
    let k = c.in-Pending.taken in
    let w = subst (WaitsAlone gr p t) c.in-Pending.is (subst (IsWay gr p t) c.in-Waits.is c.in_ok-thread.ensures) in
    let n = waits-lower gr pattern (moves_of t.moves) (moves_of v.moves) (state_of t p) (state_of v (place_after p (Some k))) (is_trees (Some k)) b.0 w in
    let le = b.1 in
    let lt = n.1 in
    subst (λ q. left q < left (place_of c.loop-now.place)) (sym c.in_ok-pass-in-Pending.ensures) (omega (arith, le, lt))

pub loop-now-preserved : goal.loop-now-preserved
loop-now-preserved g c =
    let gr = g.G.FragmentGrammar.answer c.args.grammar.now in
    let x = c.args.self.now in
    let s = state_of x (place_of c.args.place.now) in
    let l = c.loop-now.now in
    let t = c.pass_rounds.new.self in
    let p = place_of c.pass_rounds.new.place in
    let f = follows-on gr (moves_of x.moves) s (moves_of l.moves) (state_of l (place_of c.loop-now.place)) c.loop-now.invariant
    (moves_of t.moves) (state_of t p) c.in_ok-pass_rounds.ensures in
    let v = c.in-Pending.thread in
    let w = subst (WaitsAlone gr p t) c.in-Pending.is (subst (IsWay gr p t) c.in-Waits.is c.in_ok-thread.ensures) in
    subst (λ q. Follows gr (moves_of x.moves) s (moves_of v.moves) (state_of v q)) (sym c.in_ok-pass-in-Pending.ensures) (goes_on f w)

pub returns-in-Open : goal.returns-in-Open
returns-in-Open g c =
    let gr = g.G.FragmentGrammar.answer c.args.grammar.now in
    let x = c.args.self.now in
    let s = state_of x (place_of c.args.place.now) in
    let l = c.loop-now.now in
    let t = c.pass_rounds.new.self in
    let p = place_of c.pass_rounds.new.place in
    let f = follows-on gr (moves_of x.moves) s (moves_of l.moves) (state_of l (place_of c.loop-now.place)) c.loop-now.invariant
    (moves_of t.moves) (state_of t p) c.in_ok-pass_rounds.ensures in
    leads f (subst (IsWay gr p t) c.in-Open.is c.in_ok-thread.ensures)

pub returns-in-Stops : goal.returns-in-Stops
returns-in-Stops g c =
    let gr = g.G.FragmentGrammar.answer c.args.grammar.now in
    let x = c.args.self.now in
    let s = state_of x (place_of c.args.place.now) in
    let l = c.loop-now.now in
    let t = c.pass_rounds.new.self in
    let p = place_of c.pass_rounds.new.place in
    let f = follows-on gr (moves_of x.moves) s (moves_of l.moves) (state_of l (place_of c.loop-now.place)) c.loop-now.invariant
    (moves_of t.moves) (state_of t p) c.in_ok-pass_rounds.ensures in
    (moves_of t.moves, state_of t p, f, subst (IsWay gr p t) c.in-Stops.is c.in_ok-thread.ensures)

pub returns-in-Ended : goal.returns-in-Ended
returns-in-Ended g c =
    let gr = g.G.FragmentGrammar.answer c.args.grammar.now in
    let x = c.args.self.now in
    let s = state_of x (place_of c.args.place.now) in
    let l = c.loop-now.now in
    let t = c.pass_rounds.new.self in
    let p = place_of c.pass_rounds.new.place in
    let f = follows-on gr (moves_of x.moves) s (moves_of l.moves) (state_of l (place_of c.loop-now.place)) c.loop-now.invariant
    (moves_of t.moves) (state_of t p) c.in_ok-pass_rounds.ensures in
    (moves_of t.moves, state_of t p, f, subst (WaitsAlone gr p t) c.in-Ended.is (subst (IsWay gr p t) c.in-Waits.is c.in_ok-thread.ensures))
