-- Answers as text. (Of this project.)
use Rattle.std.specs.Prelude.{ℕ, Bool, List, [], ◌∷◌, ◌++◌, length, codes, decimal, flat_map}
use Rattle.std.specs.Prelude.{nat_eq, if◌then◌else◌}
use Rattle.bridge.specs.declared.reading.outcome.ReadFault.{ReadFault}
use Rattle.bridge.specs.declared.reading.outcome.ReadFaultKind.{ReadFaultKind}
use Rattle.bridge.specs.declared.reading.outcome.ReadFaultKind.TheVariants.{BadToken}
use Rattle.bridge.specs.declared.reading.outcome.ReadFaultKind.TheVariants.{CloserDoesNotFit}
use Rattle.bridge.specs.declared.reading.outcome.ReadFaultKind.TheVariants.{GroupLeftOpen}
use Rattle.tt_data.specs.declared.span.TextRange.{TextRange}
use Rattle.expander.specs.Expanded.{Expanded}
use Rattle.expander_session.specs.declared.commands.Answer.{Answer}
use Rattle.expander_session.specs.declared.commands.Answer.TheVariants.{Edited, BadEdit}
use Rattle.expander_session.specs.declared.commands.Answer.TheVariants.{Reply as Replied, Refused}
use Rattle.expander_model.specs.declared.fault.Fault.{Fault}
use Rattle.expander_model.specs.declared.fault.FaultKind.{FaultKind}
use Rattle.expander_model.specs.declared.fault.FaultKind.TheVariants.{CannotExpand}
use Rattle.expander_model.specs.declared.fault.FaultKind.TheVariants.{BrokenDefinition}
use Rattle.expander_model.specs.declared.fault.FaultKind.TheVariants.{RecursionLimit}
use Rattle.expander_model.specs.declared.fault.FaultKind.TheVariants.{NestedDefinition}
use Rattle.expander_model.specs.declared.fault.FaultKind.TheVariants.{Unspellable, TooLarge}
use Rattle.expander_scope.specs.declared.refusal.Refusal.{Refusal}
use Rattle.expander_scope.specs.declared.refusal.Refusal.TheVariants.{Memory, Tokens, Numbers}
use Rattle.expander_session.specs.declared.session.Reply.TheVariants.{Read, Unread}
use Rattle.replay_script.specs.declared.answer.LineAnswer.{LineAnswer}
use Rattle.replay_script.specs.declared.answer.LineAnswer.TheVariants as told
use Rattle.replay_script.specs.declared.line.Wrong.{Wrong}
use Rattle.replay_script.specs.declared.line.Wrong.TheVariants as fault

abbrev pub kind_name : FaultKind → List ℕ
kind_name CannotExpand = codes "CannotExpand"
kind_name BrokenDefinition = codes "BrokenDefinition"
kind_name RecursionLimit = codes "RecursionLimit"
kind_name NestedDefinition = codes "NestedDefinition"
kind_name Unspellable = codes "Unspellable"
kind_name TooLarge = codes "TooLarge"

abbrev pub read_kind_name : ReadFaultKind → List ℕ
read_kind_name BadToken = codes "BadToken"
read_kind_name CloserDoesNotFit = codes "CloserDoesNotFit"
read_kind_name GroupLeftOpen = codes "GroupLeftOpen"

abbrev pub refusal_name : Refusal → List ℕ
refusal_name Memory = codes "Memory"
refusal_name Tokens = codes "Tokens"
refusal_name Numbers = codes "Numbers"

-- the words for what is wrong with a line
abbrev pub wrong_words : Wrong → List ℕ
wrong_words fault.LineFeed = codes "no line feed ends it"
wrong_words fault.Utf8 = codes "it is not UTF-8"
wrong_words fault.CarriageReturn = codes "it has a carriage return, which a replacement writes \\r"
wrong_words fault.Command =
    codes "it is no `expand`, `edit START END REPLACEMENT`, `source N HOME TEXT` or `prelude WORD..`"
wrong_words fault.Start = codes "no number and a space come after `edit`"
wrong_words fault.End = codes "no number and a space come after START"
wrong_words fault.Replacement =
    codes "in REPLACEMENT, n, r or a backslash comes after each backslash"
wrong_words fault.Number = codes "no number from 1 to 4294967295 and a space come after `source`"
wrong_words fault.Home = codes "neither `-` nor ROOT@EDITION and a space come after N"
wrong_words fault.Text = codes "in TEXT, n, r or a backslash comes after each backslash"
wrong_words fault.TooLong = codes "TEXT has more than 4294967295 bytes"
wrong_words fault.Pick = codes "after `prelude`, N or N:I,I.. comes after each space"

-- a line with a word, a name and a range
abbrev pub place_line : List ℕ → List ℕ → TextRange → List ℕ
place_line what name place =
    what ++ (codes " " ++ (name
    ++ (codes " " ++ (decimal place.start ++ (codes " " ++ (decimal place.«end» ++ (10 ∷ [])))))))

abbrev pub fault_line : Fault → List ℕ
fault_line f = place_line (codes "fault") (kind_name f.kind) f.range

-- which text an origin is of: that which is expanded, or a source
abbrev pub text_words : ℕ → List ℕ
text_words text = if nat_eq text 0 then [] else codes " in " ++ decimal text

abbrev pub origin_line : TextRange → ℕ → List ℕ
origin_line place text =
    codes "origin " ++ (decimal place.start ++ (codes " "
    ++ (decimal place.«end» ++ (text_words text ++ (10 ∷ [])))))

abbrev pub fault_lines : List Fault → List ℕ
fault_lines faults = flat_map fault_line faults

-- a line for each place, with the text that it is of
abbrev pub origin_lines : List TextRange → List ℕ → List ℕ
origin_lines (place ∷ places) (text ∷ texts) = origin_line place text ++ origin_lines places texts
origin_lines _ _ = []

-- an expansion: its printed text after its length, its faults, how many pieces were expanded, and
-- its origins if asked for
abbrev pub expansion_told : Bool → Expanded → List ℕ
expansion_told origins e =
    (codes "printed " ++ (decimal (length e.printed) ++ (10 ∷ [])))
    ++ (e.printed ++ (fault_lines e.faults
    ++ ((codes "expanded " ++ (decimal e.expanded ++ (10 ∷ [])))
    ++ (if origins then origin_lines e.origins e.texts else []))))

abbrev pub unread_told : ReadFault → List ℕ
unread_told fault = place_line (codes "unread") (read_kind_name fault.kind) fault.range

abbrev pub refused_told : Refusal → List ℕ
refused_told refusal = codes "refused " ++ (refusal_name refusal ++ (10 ∷ []))

-- the answer to a command
abbrev pub command_told : Bool → Answer → List ℕ
command_told origins Edited = codes "edited\n"
command_told origins BadEdit = codes "bad edit\n"
command_told origins (Replied (Read e)) = expansion_told origins e
command_told origins (Replied (Unread fault)) = unread_told fault
command_told origins (Refused refusal) = refused_told refusal

-- the answer to a line
abbrev pub answer_told : Bool → LineAnswer → List ℕ
answer_told origins (told.Command answer) = command_told origins answer
answer_told origins (told.Source number definitions) =
    codes "source " ++ (decimal number ++ (codes " " ++ (decimal definitions ++ (10 ∷ []))))
answer_told origins (told.Unread number text fault) = unread_told fault
answer_told origins (told.Prelude count) = codes "prelude " ++ (decimal count ++ (10 ∷ []))
answer_told origins told.BadPrelude = codes "bad prelude\n"
answer_told origins (told.Refused refusal) = refused_told refusal
