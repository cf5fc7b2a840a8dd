use Rattle.std.proofs.Common.{sym, subst}
use Rattle.mbe_rules.specs.Ops.{items_of}
use Rattle.mbe_matcher.specs.Places.{place_of}
use Rattle.mbe_matcher.specs.Readings as r
use Rattle.mbe_matcher.specs.Ways.{HasNoMove}
use Rattle.mbe_matcher.proofs.lookahead.is_over_at.Goals as goal

pub returns-in-Some : goal.returns-in-Some
returns-in-Some c = λ e fs.
    subst (λ is. HasNoMove (r.at (items_of is) fs (place_of c.args.place.now))) (sym c.in-Some.ensures.cases.0)
    (c.is_absent.ensures e (items_of c.in-Some._rest.now) fs)
