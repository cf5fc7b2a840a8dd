-- The files of a crate that were read, and what they declare.
use Rattle.std.specs.Prelude.{map, string_bytes, ℕ, nat_lt, List, [], Option, None, option_and_then, if◌then◌else◌}
use Rattle.std.specs.List.{slice_get}
use Rattle.crate_walk.specs.declared.files.Content.{Content}
use Rattle.crate_walk.specs.declared.files.Content.TheVariants.{Text, Unread}
use Rattle.crate_walk.specs.declared.event.Event.{Event}
use Rattle.crate_walk.specs.declared.step.Place.{Place}
use Rattle.crate_walk.specs.declared.table.Table.{Table}

-- what the text of a file declares: nothing if it cannot be read
abbrev pub events_of : Content → List Event
events_of (Text text events) = events.items
events_of (Unread why) = []

-- the files that were read, numbered from 0: their names, and what each has
pub record Files : Type 0 where
  pub names : List (List ℕ)
  pub contents : List Content

-- the event of this index of a file, if it is before the event of index `last`
abbrev pub event_in : Files → ℕ → ℕ → ℕ → Option Event
event_in files file at last = if nat_lt at last
    then option_and_then (λ c. slice_get (events_of c) at) (slice_get files.contents file)
    else None

-- the event of this index of a file
abbrev pub event_of : Files → Place → Option Event
event_of files p =
    option_and_then (λ c. slice_get (events_of c) p.event) (slice_get files.contents p.file)

-- the files of a table
abbrev pub files_in : Table → Files
files_in t = record { names = map string_bytes t.names.keys; contents = t.contents.items }
