-- JSON values that tell of notes. (RFC 8259; of this project: the members.)
use Rattle.std.specs.Prelude.{ℕ, List, Option, Some, None, codes, map}
use Rattle.tt_data.specs.Forest.{Forest}
use Rattle.serde_json.specs.Data.{Data, array, null, string, object, member, no_members}
use Rattle.serde_json.specs.View.{items_of}
use Rattle.call_json.specs.Places.{count}
use Rattle.expander_trace.specs.Steps.{Attempt}
use Rattle.rule_bindings.specs.BoundRules.{BoundRule}
use Rattle.step_report.specs.Bound.{Context, attempt_bound}
use Rattle.step_report.specs.Notes.{Note, notes_of}

-- the number of a rule, if there is one
abbrev pub number_if : Option ℕ → Data
number_if None = null
number_if (Some n) = count n

-- names
abbrev pub strings : List (List ℕ) → Data
strings ns = array (items_of (map string ns))

-- a note
abbrev pub note : Note → Data
note n =
    object (member (codes "kind") (string n.kind)
    (member (codes "message") (string n.words)
    (member (codes "names") (strings n.names)
    (member (codes "rule") (number_if n.rule) no_members))))

-- the notes, if a rule gives something
abbrev pub notes : Option BoundRule → Data
notes None = null
notes (Some b) = array (items_of (map note (notes_of b.notes)))

abbrev pub notes_if : Context → Option (Attempt Forest) → Data
notes_if c None = null
notes_if c (Some a) = notes (attempt_bound c a)
