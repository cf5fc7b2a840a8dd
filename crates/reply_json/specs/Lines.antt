-- JSON values that tell what a session replies. A line is the compact JSON of one. (RFC 8259; of
-- this project: the members.)
use Rattle.std.specs.Prelude.{ℕ, List, [], ◌∷◌, codes, map}
use Rattle.tt_data.specs.declared.span.TextRange.{TextRange}
use Rattle.serde_json.specs.Data.{Data, string, array, object, Members, member, no_members}
use Rattle.serde_json.specs.View.{items_of}
use Rattle.call_json.specs.Places.{count, numbers, place}
use Rattle.bridge.specs.PrintedRanges.{read_ranges}
use Rattle.bridge.specs.declared.reading.outcome.ReadFault.{ReadFault}
use Rattle.bridge.specs.declared.reading.outcome.ReadFaultKind.{ReadFaultKind}
use Rattle.bridge.specs.declared.reading.outcome.ReadFaultKind.TheVariants as reads
use Rattle.expander_model.specs.declared.fault.Fault.{Fault}
use Rattle.expander_model.specs.declared.fault.FaultKind.{FaultKind}
use Rattle.expander_model.specs.declared.fault.FaultKind.TheVariants as kinds
use Rattle.expander_run.specs.Lines.{fault_words, read_fault_words, refusal_words}
use Rattle.expander_run.specs.expander_session.expander_scope.declared.refusal.Refusal.{Refusal}
use Rattle.expander_run.specs.expander_session.Expanded.{Expanded}

-- what tells which form a line has, and the version of these forms
abbrev pub answer : List ℕ → Members → Members
answer name rest = member (codes "answer") (string name) rest

abbrev pub version : Members
version = member (codes "v") (count 1) no_members

-- ---- faults

abbrev pub kind_name : FaultKind → List ℕ
kind_name kinds.CannotExpand = codes "CannotExpand"
kind_name kinds.BrokenDefinition = codes "BrokenDefinition"
kind_name kinds.RecursionLimit = codes "RecursionLimit"
kind_name kinds.NestedDefinition = codes "NestedDefinition"
kind_name kinds.Unspellable = codes "Unspellable"
kind_name kinds.TooLarge = codes "TooLarge"

abbrev pub read_kind_name : ReadFaultKind → List ℕ
read_kind_name reads.BadToken = codes "BadToken"
read_kind_name reads.CloserDoesNotFit = codes "CloserDoesNotFit"
read_kind_name reads.GroupLeftOpen = codes "GroupLeftOpen"

-- where a fault is, of which kind, and in words
abbrev pub told : Data → (kind message : List ℕ) → Members → Members
told at kind message rest =
    member (codes "at") at (member (codes "kind") (string kind)
    (member (codes "message") (string message) rest))

-- a fault of a text
abbrev pub fault : List ℕ → Fault → Data
fault text f = object (told (place text f.range) (kind_name f.kind) (fault_words f.kind) no_members)

-- faults, in order
abbrev pub faults : List ℕ → List Fault → Data
faults text fs = array (items_of (map (fault text) fs))

-- ---- tokens

-- where ranges start and end, two numbers for each
abbrev pub ends_of : List TextRange → List ℕ
ends_of [] = []
ends_of (r ∷ rs) = r.start ∷ r.«end» ∷ ends_of rs

-- where tokens come from, three numbers for each: a text, and where it starts and ends there
abbrev pub origin_numbers : (texts : List ℕ) → List TextRange → List ℕ
origin_numbers (t ∷ ts) (r ∷ rs) = t ∷ r.start ∷ r.«end» ∷ origin_numbers ts rs
origin_numbers _ _ = []

-- ---- lines

-- the expansion of a text
abbrev pub expansion : List ℕ → Expanded → Data
expansion text e =
    object (answer (codes "expansion") (member (codes "expanded") (count e.expanded)
    (member (codes "faults") (faults text e.faults)
    (member (codes "origins") (numbers (origin_numbers e.texts e.origins))
    (member (codes "ranges") (numbers (ends_of (read_ranges e.printed)))
    (member (codes "text") (string e.printed) version))))))

-- why a text cannot be read
abbrev pub unread : List ℕ → ReadFault → Data
unread text f =
    object (answer (codes "unread")
    (told (place text f.range) (read_kind_name f.kind) (read_fault_words f.kind) version))

-- why a session refused
abbrev pub refused : Refusal → Data
refused why =
    object (answer (codes "refused")
    (member (codes "message") (string (refusal_words why)) version))

-- an expansion whose printed text is too long for places
abbrev pub too_long : Data
too_long =
    object (answer (codes "refused")
    (member (codes "message") (string (codes "the printed text is too long")) version))

-- ---- lines of scripts

-- an answer that says no more than its name
abbrev pub bare : List ℕ → Data
bare name = object (answer name version)

-- a text is read as a source of this number, with so many definitions
abbrev pub source_read : (number definitions : ℕ) → Data
source_read number definitions =
    object (answer (codes "source") (member (codes "definitions") (count definitions)
    (member (codes "source") (count number) version)))

-- why a text cannot be read as a source of this number
abbrev pub source_unread : ℕ → List ℕ → ReadFault → Data
source_unread number text f =
    object (answer (codes "unread")
    (told (place text f.range) (read_kind_name f.kind) (read_fault_words f.kind)
    (member (codes "source") (count number) version)))

-- a text is expanded after so many definitions that are seen by their names
abbrev pub prelude : ℕ → Data
prelude definitions =
    object (answer (codes "prelude") (member (codes "definitions") (count definitions) version))
