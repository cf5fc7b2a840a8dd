-- What calls tell of the last answer, as C sees it.
use Rattle.std.specs.Prelude.{◌≡◌, ℕ, ◌<◌, ◌≤◌, ◌^◌, ◌++◌, List, length, drop, map, slice_get}
use Rattle.std.specs.Prelude.{take, Option, Some, None}
use Rattle.tt_data.specs.declared.span.TextRange.{TextRange}
use Rattle.bridge.specs.PrintedRanges.{read_ranges}
use Rattle.bridge.specs.declared.reading.outcome.ReadFault.{ReadFault}
use Rattle.bridge.specs.declared.reading.outcome.ReadFaultKind.{ReadFaultKind}
use Rattle.bridge.specs.declared.reading.outcome.ReadFaultKind.TheVariants as reads
use Rattle.expander_model.specs.declared.fault.Fault.{Fault}
use Rattle.expander_model.specs.declared.fault.FaultKind.{FaultKind}
use Rattle.expander_model.specs.declared.fault.FaultKind.TheVariants as kinds
use Rattle.expander_session.specs.Expanded.{Expanded}
use Rattle.filgordd_c.specs.declared.answers.ByteRange.{ByteRange}
use Rattle.filgordd_c.specs.declared.answers.Counts.{Counts}
use Rattle.filgordd_c.specs.declared.answers.ToldFault.{ToldFault}
use Rattle.filgordd_c.specs.declared.code.Code.{Code}
use Rattle.filgordd_c.specs.declared.code.Code.TheVariants as code
use Rattle.filgordd_c.specs.declared.live.Answer.{Answer}
use Rattle.filgordd_c.specs.declared.live.Answer.TheVariants as last

-- ---- values

abbrev pub byte_range : TextRange → ByteRange
byte_range r = record { start = r.start; «end» = r.«end» }

abbrev pub kind_number : FaultKind → ℕ
kind_number kinds.CannotExpand = 0
kind_number kinds.BrokenDefinition = 1
kind_number kinds.RecursionLimit = 2
kind_number kinds.NestedDefinition = 3
kind_number kinds.Unspellable = 4
kind_number kinds.TooLarge = 5

abbrev pub read_kind_number : ReadFaultKind → ℕ
read_kind_number reads.BadToken = 0
read_kind_number reads.CloserDoesNotFit = 1
read_kind_number reads.GroupLeftOpen = 2

abbrev pub told : Fault → ToldFault
told f = record { kind = kind_number f.kind; range = byte_range f.range }

abbrev pub told_unread : ReadFault → ToldFault
told_unread f = record { kind = read_kind_number f.kind; range = byte_range f.range }

abbrev pub counted : Expanded → Counts
counted e = record {
  printed = length e.printed;
  tokens = length e.origins;
  faults = length e.faults;
  expanded = e.expanded;
}

-- ---- answers

-- what is told of an expansion, with what it is written to before and after; or that the last
-- answer is none, and then nothing is written
abbrev pub OfExpansion : {A : Type 0} → (Expanded → A → A → Code → Type 0) → A → A → Answer → Code
    → Type 0
OfExpansion tells old new (last.Read e) c = tells e old new c
OfExpansion tells old new _ c = (c ≡ code.Nothing) × (new ≡ old)

-- a list is copied to the beginning of a room, if there is enough
abbrev pub Copied : {A : Type 0} → List A → List A → List A → Code → Type 0
Copied items old new code.Done = (length items ≤ length old)
    × (new ≡ items ++ drop (length items) old)
Copied items old new code.Room = (length old < length items) × (new ≡ old)
Copied items old new _ = ⊥

-- the counts are written
abbrev pub CountsTold : Expanded → Counts → Counts → Code → Type 0
CountsTold e old new code.Done = new ≡ counted e
CountsTold e old new _ = ⊥

-- the fault of an index is written, if there is one
abbrev pub FaultAt : Option Fault → ToldFault → ToldFault → Code → Type 0
FaultAt (Some f) old new c = (c ≡ code.Done) × (new ≡ told f)
FaultAt None old new c = (c ≡ code.Index) × (new ≡ old)

abbrev pub FaultTold : ℕ → Expanded → ToldFault → ToldFault → Code → Type 0
FaultTold i e = FaultAt (slice_get e.faults i)

-- the reading fault is written, if the last answer is one
abbrev pub ReadingFaultTold : ToldFault → ToldFault → Answer → Code → Type 0
ReadingFaultTold old new (last.Unread f) c = (c ≡ code.Done) × (new ≡ told_unread f)
ReadingFaultTold old new _ c = (c ≡ code.Nothing) × (new ≡ old)

-- the printed text is copied
abbrev pub PrintedTold : Expanded → List ℕ → List ℕ → Code → Type 0
PrintedTold e = Copied e.printed

-- the origins are copied
abbrev pub OriginsTold : Expanded → List ByteRange → List ByteRange → Code → Type 0
OriginsTold e = Copied (map byte_range e.origins)

-- the number of the text that each printed token comes from is copied, if there is enough room
abbrev pub SourcesTold : Expanded → List ℕ → List ℕ → Code → Type 0
SourcesTold e old new code.Done =
    (length e.origins ≤ length old)
    × (new ≡ take (length e.origins) e.texts ++ drop (length e.origins) old)
SourcesTold e old new code.Room = (length old < length e.origins) × (new ≡ old)
SourcesTold e old new _ = ⊥

-- the ranges of the printed tokens are copied, unless the printed text is too long for them
abbrev pub TokenRangesTold : Expanded → List ByteRange → List ByteRange → Code → Type 0
TokenRangesTold e old new code.Length = (2 ^ 32 ≤ length e.printed) × (new ≡ old)
TokenRangesTold e old new c = Copied (map byte_range (read_ranges e.printed)) old new c
