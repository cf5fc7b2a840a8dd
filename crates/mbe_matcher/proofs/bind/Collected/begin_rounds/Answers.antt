-- The innermost open repetition has the iterations.
use Rattle.std.proofs.Common.{◌∙◌, ◌-◌, refl, sym, ap, arith}
use Rattle.std.specs.Vec.{vec_len}
use Rattle.mbe_matcher.specs.Bound.{map_of}
use Rattle.mbe_matcher.specs.Collecting.{after_all}
use Rattle.mbe_matcher.specs.Threads.{rounds_of}
use Rattle.mbe_matcher.proofs.CollectingLemmas.{last-changed}
use Rattle.mbe_matcher.proofs.bind.Collected.begin_rounds.Goals as goal

pub returns-in_ok-begin_rounds-in-Some : goal.returns-in_ok-begin_rounds-in-Some
returns-in_ok-begin_rounds-in-Some c =
    let os = c.args.self.now.opens in
    let ms = rounds_of c.args.name.now c.args.kind c.args.trees.now in
    let some = c.in-Some.ensures.variant.0 refl in
    let (rest, was, is) = last-changed os.items (vec_len os - 1) c.in-Some.open.now (omega (arith, os.ok.0)) (omega (arith, os.ok.0, some)) c.in-Some.ensures.value in
    ap (λ o. (map_of c.begin_rounds.new.round, o)) (is c.begin_rounds.new.self)
    ∙ c.in_ok-begin_rounds-in-Some.ensures rest
    ∙ ap (λ o. after_all ms (map_of c.args.self.now.here, o)) (sym was)
