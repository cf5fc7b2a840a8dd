-- The words for the numbers of codes and of faults, the version, and where a byte of a text is.
use Rattle.std.specs.Prelude.{◌≡◌, ℕ, ◌<◌, ◌≤◌, ◌^◌, List, length, Option, Some, None, codes}
use Rattle.std.specs.Prelude.{nat_eq, nat_lt, if◌then◌else◌, option_map}
use Rattle.bridge.specs.declared.reading.outcome.ReadFaultKind.{ReadFaultKind}
use Rattle.bridge.specs.declared.reading.outcome.ReadFaultKind.TheVariants as reads
use Rattle.expander_model.specs.declared.fault.FaultKind.{FaultKind}
use Rattle.expander_model.specs.declared.fault.FaultKind.TheVariants as kinds
use Rattle.expander_run.specs.Lines.{column_at, fault_words, line_at, read_fault_words}
use Rattle.expander_run.specs.Lines.{refusal_words}
use Rattle.expander_scope.specs.declared.refusal.Refusal.TheVariants as why
use Rattle.filgordd_c.specs.Answered.{Copied}
use Rattle.filgordd_c.specs.declared.code.Code.{Code}
use Rattle.filgordd_c.specs.declared.code.Code.TheVariants as code
use Rattle.filgordd_c.specs.declared.position.Position.{Position}

-- ---- words

-- the version of the library
abbrev pub version : List ℕ
version = codes "0.1.0"

-- the words for a code; those for a refusal are the ones that a run prints
abbrev pub code_words : Code → List ℕ
code_words code.Done = codes "done"
code_words code.Unread = codes "the text cannot be read as trees"
code_words code.Memory = refusal_words why.Memory
code_words code.Tokens = refusal_words why.Tokens
code_words code.Numbers = refusal_words why.Numbers
code_words code.Closed = codes "there is no session"
code_words code.Utf8 = codes "the bytes are not UTF-8"
code_words code.Length = codes "the text is too long"
code_words code.Edition = codes "there is no such edition"
code_words code.Grammar = codes "there is no such grammar"
code_words code.Boundary = codes "an offset is within a character"
code_words code.Range = codes "the range is not in the text"
code_words code.Nothing = codes "there is no such answer"
code_words code.Index = codes "there is nothing of this index"
code_words code.Room = codes "there is not enough room"
code_words code.Root = codes "the word cannot stand for a crate"
code_words code.Source = codes "there is no source of this number"
code_words code.Scope = codes "there are no such rules of scopes"
code_words code.Cfg = codes "a word names no option for conditional compilation"

-- the code of a number from 0 to 9
abbrev pub early_code : ℕ → Option Code
early_code n =
    if nat_eq n 0 then Some code.Done
    else if nat_eq n 1 then Some code.Unread
    else if nat_eq n 2 then Some code.Memory
    else if nat_eq n 3 then Some code.Tokens
    else if nat_eq n 4 then Some code.Numbers
    else if nat_eq n 5 then Some code.Closed
    else if nat_eq n 6 then Some code.Utf8
    else if nat_eq n 7 then Some code.Length
    else if nat_eq n 8 then Some code.Edition
    else if nat_eq n 9 then Some code.Grammar
    else None

-- the code of a number from 10 on
abbrev pub late_code : ℕ → Option Code
late_code n =
    if nat_eq n 10 then Some code.Boundary
    else if nat_eq n 11 then Some code.Range
    else if nat_eq n 12 then Some code.Nothing
    else if nat_eq n 13 then Some code.Index
    else if nat_eq n 14 then Some code.Room
    else if nat_eq n 16 then Some code.Root
    else if nat_eq n 17 then Some code.Source
    else if nat_eq n 18 then Some code.Scope
    else if nat_eq n 19 then Some code.Cfg
    else None

-- the code of a number
abbrev pub code_of : ℕ → Option Code
code_of n = if nat_lt n 10 then early_code n else late_code n

-- the words for the number of a code; 15 is that of a null pointer, which the header answers
abbrev pub words_of_code : ℕ → Option (List ℕ)
words_of_code n =
    if nat_eq n 15 then Some (codes "a pointer is NULL") else option_map code_words (code_of n)

-- the kind of a fault of this number
abbrev pub kind_of : ℕ → Option FaultKind
kind_of n =
    if nat_eq n 0 then Some kinds.CannotExpand
    else if nat_eq n 1 then Some kinds.BrokenDefinition
    else if nat_eq n 2 then Some kinds.RecursionLimit
    else if nat_eq n 3 then Some kinds.NestedDefinition
    else if nat_eq n 4 then Some kinds.Unspellable
    else if nat_eq n 5 then Some kinds.TooLarge
    else None

-- the kind of a reading fault of this number
abbrev pub read_kind_of : ℕ → Option ReadFaultKind
read_kind_of n =
    if nat_eq n 0 then Some reads.BadToken
    else if nat_eq n 1 then Some reads.CloserDoesNotFit
    else if nat_eq n 2 then Some reads.GroupLeftOpen
    else None

-- the words for the number of a kind of fault: those that a run prints
abbrev pub words_of_kind : ℕ → Option (List ℕ)
words_of_kind n = option_map fault_words (kind_of n)

-- the words for the number of a kind of reading fault: those that a run prints
abbrev pub words_of_read_kind : ℕ → Option (List ℕ)
words_of_read_kind n = option_map read_fault_words (read_kind_of n)

-- words are copied and their length is told; or there are none, and then nothing is written
abbrev pub WordsTold : Option (List ℕ) → List ℕ → List ℕ → ℕ → ℕ → Code → Type 0
WordsTold (Some words) old new len told c = Copied words old new c × (told ≡ length words)
WordsTold None old new len told c = (c ≡ code.Index) × (new ≡ old) × (told ≡ len)

-- ---- positions

-- where a byte of a text is: its line and its byte column, both from 1, as a run prints them
abbrev pub position_in : List ℕ → ℕ → Position
position_in text at = record { line = line_at text at; column = column_at text at }

-- the position of a byte, or of the text's end, is written; or the byte is not in the text
abbrev pub PositionTold : List ℕ → ℕ → Position → Position → Code → Type 0
PositionTold text at old new code.Done = (at ≤ length text) × (new ≡ position_in text at)
PositionTold text at old new code.Range = (length text < at) × (new ≡ old)
PositionTold text at old new code.Length = (length text < 2 ^ 32 → ⊥) × (new ≡ old)
PositionTold text at old new _ = ⊥
