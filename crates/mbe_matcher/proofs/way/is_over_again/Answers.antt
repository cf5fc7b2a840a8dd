use Rattle.std.proofs.Common.{refl, sym, subst, ◌∷◌, None}
use Rattle.mbe_rules.specs.Ops.{items_of}
use Rattle.mbe_matcher.specs.Places.{place_of}
use Rattle.mbe_matcher.specs.Readings as r
use Rattle.mbe_matcher.specs.Steps.{further}
use Rattle.mbe_matcher.specs.Threads.{between_of}
use Rattle.mbe_matcher.specs.Ways.{IsDead}
use Rattle.mbe_matcher.proofs.way.is_over_again.Goals as goal

pub returns-in-None : goal.returns-in-None
returns-in-None c = λ e fs.
    let x = c.args.round in
    let body = items_of x.body.now in
    let after = items_of x.after.now in
    subst (λ s. IsDead (further body (between_of s) x.kind after fs (place_of c.args.place.now))) (sym c.in-None.is)
    (refl, c.is_over_at.ensures e (r.in_round body None x.kind after ∷ fs))
