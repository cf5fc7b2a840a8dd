-- The search goes from one with the number to the one before.
use Rattle.std.proofs.Common.{◌≡◌, ◌∙◌, ◌-◌, ℕ, List, suc, map, length, sym, ap, subst, arith}
use Rattle.mbe_matcher.specs.SeenStates.{is_like, last_at, number_of_state}
use Rattle.mbe_matcher.specs.declared.same_state.Seen.{Seen}
use Rattle.mbe_matcher.proofs.NumberLemmas.{like-number}
use Rattle.mbe_matcher.proofs.StateIndexLemmas.{IsAt, begins, falls, found, goes-on, stands-at, within}
use Rattle.mbe_matcher.proofs.seen_states.StateIndex.finds.Goals as goal

abbrev number : Seen → ℕ
number x = number_of_state x.thread

pub loop-count-init : goal.loop-count-init
loop-count-init c =
    let ns : List ℕ = map number c.args.seen.now in
    begins (is_like c.args.twice c.args.thread.now) number (number_of_state c.args.thread.now) (like-number c.args.twice c.args.thread.now) c.args.seen.now
    c.get-count.result (c.get-count.ensures ∙ c.requires.last c.number_of_state.result ∙ ap (λ n. last_at ns n (length ns)) c.number_of_state.ensures)

pub offset_bounds-seen-count : goal.offset_bounds-seen-count
offset_bounds-seen-count c =
    let e : c.loop-count.count ≡ suc (c.loop-count.count - 1) = omega (arith, c.loop-count-test.true) in
    let h = (c.loop-count.invariant.here (c.loop-count.count - 1) e).0 in
    omega (arith, h)

pub bounds-seen-count : goal.bounds-seen-count
bounds-seen-count c =
    let e : c.loop-count.count ≡ suc (c.loop-count.count - 1) = omega (arith, c.loop-count-test.true) in
    (c.loop-count.invariant.here (c.loop-count.count - 1) e).0

pub returns-then-is_like : goal.returns-then-is_like
returns-then-is_like c =
    let e : c.loop-count.count ≡ suc (c.loop-count.count - 1) = omega (arith, c.loop-count-test.true) in
    let h = (c.loop-count.invariant.here (c.loop-count.count - 1) e).0 in
    found (is_like c.args.twice c.args.thread.now) number (number_of_state c.args.thread.now) (like-number c.args.twice c.args.thread.now) c.args.seen.now
    (c.loop-count.count - 1) c.index-seen-count.result (stands-at c.args.seen.now (c.loop-count.count - 1) c.index-seen-count.result h c.index-seen-count.is)
    (sym c.is_like.ensures ∙ c.if-is_like.true)

pub before-count-requires : goal.before-count-requires
before-count-requires c =
    let e : c.loop-count.count ≡ suc (c.loop-count.count - 1) = omega (arith, c.loop-count-test.true) in
    let test = is_like c.args.twice c.args.thread.now in
    let n = number_of_state c.args.thread.now in
    within test number n (like-number c.args.twice c.args.thread.now) c.args.seen.now c.args.self.now c.requires (c.loop-count.count - 1)
    (subst (IsAt test number n c.args.seen.now) e c.loop-count.invariant)

pub loop-count-smaller : goal.loop-count-smaller
loop-count-smaller c =
    let e : c.loop-count.count ≡ suc (c.loop-count.count - 1) = omega (arith, c.loop-count-test.true) in
    let test = is_like c.args.twice c.args.thread.now in
    let n = number_of_state c.args.thread.now in
    let h = falls test number n (like-number c.args.twice c.args.thread.now) c.args.seen.now c.args.self.now c.requires (c.loop-count.count - 1)
    (subst (IsAt test number n c.args.seen.now) e c.loop-count.invariant) in
    omega (arith, h, e, c.before-count.ensures)

pub loop-count-preserved : goal.loop-count-preserved
loop-count-preserved c =
    let e : c.loop-count.count ≡ suc (c.loop-count.count - 1) = omega (arith, c.loop-count-test.true) in
    let test = is_like c.args.twice c.args.thread.now in
    let n = number_of_state c.args.thread.now in
    let h = (c.loop-count.invariant.here (c.loop-count.count - 1) e).0 in
    subst (IsAt test number n c.args.seen.now) (sym c.before-count.ensures)
    (goes-on test number n (like-number c.args.twice c.args.thread.now) c.args.seen.now c.args.self.now c.requires (c.loop-count.count - 1)
    (subst (IsAt test number n c.args.seen.now) e c.loop-count.invariant)
    c.index-seen-count.result (stands-at c.args.seen.now (c.loop-count.count - 1) c.index-seen-count.result h c.index-seen-count.is) (sym c.is_like.ensures ∙ c.if-is_like.false))
