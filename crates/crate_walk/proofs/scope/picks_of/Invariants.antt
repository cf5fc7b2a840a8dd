-- The places of other files so far.
use Rattle.std.proofs.Common.{◌≡◌, take}
use Rattle.std.specs.Prelude.{filter, nat_eq, not}
use Rattle.crate_walk.specs.declared.step.Place.{Place}
use Rattle.crate_walk.proofs.scope.picks_of.Given as goal

abbrev pub invariant-loop-place : goal.invariant-loop-place
invariant-loop-place l =
    l.others.items ≡ filter (λ (p : Place). not (nat_eq p.file l.file)) (take l.place-index l.places)
