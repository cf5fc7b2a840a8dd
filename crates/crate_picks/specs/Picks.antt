-- The definitions at places of a crate. (Of this project.)
use Rattle.std.specs.Prelude.{ℕ, List, [], ◌∷◌, Option, Some, None, flat_map, map, option_and_then}
use Rattle.std.specs.Prelude.{option_map, unwrap_or}
use Rattle.std.specs.List.{slice_get}
use Rattle.crate_picks.specs.First.{first_of}
use Rattle.crate_walk.specs.Files.{Files, event_of}
use Rattle.crate_walk.specs.declared.event.Event.{Event}
use Rattle.crate_walk.specs.declared.event.Event.TheVariants as event
use Rattle.crate_walk.specs.declared.step.Place.{Place}
use Rattle.expander_sources.specs.Picks.{picked}
use Rattle.expander_sources.specs.Sources.{Item, Source, item_at, name_range_of}
use Rattle.tt_data.specs.Forest.{Forest}

-- the offset at which the name of a definition begins
abbrev pub start_of : Item → ℕ
start_of i = unwrap_or (option_map (λ r. r.start) (name_range_of i.piece)) 0

abbrev pub starts : List Item → List ℕ
starts items = map start_of items

-- the first definition of a source whose name begins at an offset, as a prelude has it
abbrev pub found_at : Source → ℕ → Option Forest
found_at s at =
    option_map (λ i. picked s.home (item_at s.items i).piece) (first_of (starts s.items) at)

-- the offset at which the name of the definition begins that an event is
abbrev pub macro_start : Event → Option ℕ
macro_start (event.Macro m) = Some m.start
macro_start e = None

abbrev pub macro_start_at : Files → Place → Option ℕ
macro_start_at files p = option_and_then macro_start (event_of files p)

-- the source that the file of this number is read as, if it is
abbrev pub source_at : List (Option Source) → ℕ → Option Source
source_at sources k = option_and_then (λ s. s) (slice_get sources k)

-- the definition at a place, as a prelude has it: none if there is none
abbrev pub pick_of : Files → List (Option Source) → Place → Option Forest
pick_of files sources p =
    option_and_then (λ at. option_and_then (λ s. found_at s at) (source_at sources p.file))
    (macro_start_at files p)

-- a list of what is there
abbrev pub listed : Option Forest → List Forest
listed None = []
listed (Some piece) = piece ∷ []

-- the definitions at places, in order
abbrev pub picks_of : Files → List (Option Source) → List Place → List Forest
picks_of files sources places = flat_map (λ p. listed (pick_of files sources p)) places
