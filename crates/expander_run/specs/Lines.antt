-- The lines in which a run reports its faults. (Of this project.)
use Rattle.std.specs.Prelude.{ℕ, ◌+◌, Bool, not, List, [], ◌∷◌, ◌++◌, length, take, reverse, codes}
use Rattle.std.specs.Prelude.{decimal, nat_eq, count_by}
use Rattle.std.specs.List.{take_while}
use Rattle.bridge.specs.declared.reading.outcome.ReadFaultKind.{ReadFaultKind}
use Rattle.bridge.specs.declared.reading.outcome.ReadFaultKind.TheVariants.{BadToken}
use Rattle.bridge.specs.declared.reading.outcome.ReadFaultKind.TheVariants.{CloserDoesNotFit}
use Rattle.bridge.specs.declared.reading.outcome.ReadFaultKind.TheVariants.{GroupLeftOpen}
use Rattle.expander_model.specs.declared.fault.Fault.{Fault}
use Rattle.expander_model.specs.declared.fault.FaultKind.{FaultKind}
use Rattle.expander_model.specs.declared.fault.FaultKind.TheVariants.{CannotExpand}
use Rattle.expander_model.specs.declared.fault.FaultKind.TheVariants.{BrokenDefinition}
use Rattle.expander_model.specs.declared.fault.FaultKind.TheVariants.{RecursionLimit}
use Rattle.expander_model.specs.declared.fault.FaultKind.TheVariants.{NestedDefinition}
use Rattle.expander_model.specs.declared.fault.FaultKind.TheVariants.{Unspellable, TooLarge}
use Rattle.expander_run.specs.declared.stop.Stop.{Stop}
use Rattle.expander_run.specs.declared.stop.Stop.TheVariants.{NotUtf8, TooLong, ReadFailed}
use Rattle.expander_run.specs.declared.stop.Stop.TheVariants.{WriteFailed, Refused}
use Rattle.expander_session.specs.expander_scope.declared.refusal.Refusal.{Refusal}
use Rattle.expander_session.specs.expander_scope.declared.refusal.Refusal.TheVariants.{Memory}
use Rattle.expander_session.specs.expander_scope.declared.refusal.Refusal.TheVariants.{Tokens}
use Rattle.expander_session.specs.expander_scope.declared.refusal.Refusal.TheVariants.{Numbers}
use Rattle.expander_session.specs.declared.session.Reply.{Reply}
use Rattle.expander_session.specs.declared.session.Reply.TheVariants.{Read, Unread}

-- ---- positions

-- a line feed
abbrev pub is_line_feed : ℕ → Bool
is_line_feed b = nat_eq b 10

-- the line of a byte, from 1: one more than the line feeds before it
abbrev pub line_at : List ℕ → ℕ → ℕ
line_at text n = count_by is_line_feed (take n text) + 1

-- its byte column, from 1: one more than the bytes before it that follow the last line feed
abbrev pub column_at : List ℕ → ℕ → ℕ
column_at text n = length (take_while (λ b. not (is_line_feed b)) (reverse (take n text))) + 1

-- ---- words for faults

-- the words for a fault of an expansion
abbrev pub fault_words : FaultKind → List ℕ
fault_words CannotExpand = codes "no rule matches this call"
fault_words BrokenDefinition = codes "broken macro definition"
fault_words RecursionLimit = codes "recursion limit reached"
fault_words NestedDefinition = codes "macro definition in the output"
fault_words Unspellable = codes "token without a spelling"
fault_words TooLarge = codes "the expansion of this call is too large"

-- the words for a reading fault
abbrev pub read_fault_words : ReadFaultKind → List ℕ
read_fault_words BadToken = codes "bad token"
read_fault_words CloserDoesNotFit = codes "closing bracket does not fit"
read_fault_words GroupLeftOpen = codes "group left open"

-- the words for a refusal of a session
abbrev pub refusal_words : Refusal → List ℕ
refusal_words Memory = codes "out of memory"
refusal_words Tokens = codes "too many tokens"
refusal_words Numbers = codes "too many definitions"

-- the words for what stops a run
abbrev pub stop_words : Stop → List ℕ
stop_words NotUtf8 = codes "input is not UTF-8"
stop_words TooLong = codes "input is too long"
stop_words ReadFailed = codes "read failed"
stop_words WriteFailed = codes "write failed"
stop_words (Refused refusal) = refusal_words refusal

-- ---- lines

-- a line with its position, and what is wrong there
abbrev pub line : (line column : ℕ) → List ℕ → List ℕ
line l c what = codes "line "
    ++ (decimal l ++ (codes ", byte column "
    ++ (decimal c ++ (codes ": " ++ (what ++ (10 ∷ []))))))

-- a line whose position is that of a byte of the text
abbrev pub line_of : List ℕ → ℕ → List ℕ → List ℕ
line_of text n what = line (line_at text n) (column_at text n) what

-- a line for each fault, in order
abbrev pub fault_lines : List ℕ → List Fault → List ℕ
fault_lines text [] = []
fault_lines text (f ∷ fs) = line_of text f.range.start (fault_words f.kind) ++ fault_lines text fs

-- the report of a reply to a text
abbrev pub report : List ℕ → Reply → List ℕ
report text (Read e) = fault_lines text e.faults
report text (Unread fault) = line_of text fault.range.start (read_fault_words fault.kind)

-- the report of a run that stops
abbrev pub stop_line : Stop → List ℕ
stop_line stop = stop_words stop ++ (10 ∷ [])
