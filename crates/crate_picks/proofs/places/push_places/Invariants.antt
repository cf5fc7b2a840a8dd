use Rattle.std.proofs.Common.{◌≡◌, ◌++◌, drop}
use Rattle.crate_picks.specs.Picks.{picks_of}
use Rattle.crate_walk.specs.Modules.{files_of}
use Rattle.crate_picks.proofs.places.push_places.Given as goal

abbrev pub invariant-loop-place : goal.invariant-loop-place
invariant-loop-place l =
    l.prelude ++ picks_of (files_of l.modules) l.files (drop l.place-index l.places)
    ≡ l.fn.prelude ++ picks_of (files_of l.modules) l.files l.places
