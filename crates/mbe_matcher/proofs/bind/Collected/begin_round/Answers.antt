-- The innermost open repetition has one more iteration, and the next begins with the fragment.
use Rattle.std.proofs.Common.{◌∙◌, ◌-◌, refl, sym, ap, slice_set, arith}
use Rattle.std.specs.Vec.{vec_len}
use Rattle.tt.specs.Views.{forest}
use Rattle.mbe_matcher.specs.Bound.{map_of}
use Rattle.mbe_matcher.specs.Collecting.{after, opens_of}
use Rattle.mbe_matcher.specs.Readings as r
use Rattle.mbe_matcher.proofs.CollectingLemmas.{round-over}
use Rattle.mbe_matcher.proofs.bind.Collected.begin_round.Goals as goal

pub returns-in_ok-begin_round-in-Some : goal.returns-in_ok-begin_round-in-Some
returns-in_ok-begin_round-in-Some c =
    let os = c.args.self.now.opens in
    let n = vec_len os - 1 in
    let some = c.in-Some.ensures.variant.0 refl in
    let value = c.in-Some.ensures.value in
    ap (λ m. (m, opens_of (slice_set os.items n c.begin_round.new.self))) c.in_ok-begin_round-in-Some.ensures.first
    ∙ sym (ap (after (r.fragment_move c.args.name.now c.args.kind (forest c.args.trees)))
    (round-over (map_of c.args.self.now.here) os.items n c.in-Some.open.now c.begin_round.new.self
    (omega (arith, os.ok.0)) (omega (arith, os.ok.0, some)) value c.in_ok-begin_round-in-Some.ensures.bound))
