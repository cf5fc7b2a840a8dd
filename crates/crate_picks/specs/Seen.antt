-- The places that files see. (Of this project.)
use Rattle.std.specs.Prelude.{ℕ, List, [], map, option_and_then, option_map, unwrap_or}
use Rattle.std.specs.List.{slice_get}
use Rattle.crate_picks.specs.First.{first_of}
use Rattle.crate_walk.specs.declared.scope.Picks.{Picks}
use Rattle.crate_walk.specs.declared.step.Place.{Place}

-- the numbers of the files, in the order in which they end
abbrev pub numbers : List Picks → List ℕ
numbers picks = map (λ p. p.file) picks

-- what a file sees: the first time that it ends
abbrev pub places_seen : List Picks → ℕ → List Place
places_seen picks k = unwrap_or
    (option_and_then (λ i. option_map (λ p. p.places.items) (slice_get picks i))
    (first_of (numbers picks) k)) []
