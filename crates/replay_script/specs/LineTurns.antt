-- What the steps of a script promise each other.
use Rattle.std.specs.Prelude.{◌≡◌, ◌≢◌, ◌<◌, ◌^◌, ℕ, Bool, List, [], take, length, Option, None}
use Rattle.std.specs.Prelude.{Some, Result, Ok, Err, string_bytes, ⊤}
use Rattle.std.specs.Io.{StopsAt}
use Rattle.std.specs.Io.KnownBytes.{IsAtEnd}
use Rattle.expander_model.specs.Meaning.{Layers}
use Rattle.expander_scope.specs.declared.refusal.Refusal.TheVariants.{Memory}
use Rattle.expander_session.specs.CommandTurns.{Turn}
use Rattle.expander_session.specs.State.{State}
use Rattle.expander_sources.specs.Homes.{Home}
use Rattle.expander_sources.specs.Sources.{Source}
use Rattle.replay_script.specs.Picks.{Picked, all_picked, prelude_of, with_source}
use Rattle.replay_script.specs.Progress.{IsPreludeAnswer, IsSourceAnswer, source_read}
use Rattle.replay_script.specs.Scripts.{HasLine, IsSourceNumber, IsWrongLine, Says}
use Rattle.replay_script.specs.SourceTables.{source_in}
use Rattle.replay_script.specs.Written.{written}
use Rattle.replay_script.specs.declared.answer.LineAnswer.{LineAnswer}
use Rattle.replay_script.specs.declared.answer.LineAnswer.TheVariants as told
use Rattle.replay_script.specs.declared.form.Form.{Form}
use Rattle.replay_script.specs.declared.line.Line.{Line}
use Rattle.replay_script.specs.declared.line.Line.TheVariants as asked
use Rattle.replay_script.specs.declared.line.Pick.{Pick}
use Rattle.replay_script.specs.declared.script.End.{End}
use Rattle.replay_script.specs.declared.script.End.TheVariants.{Whole, Wrong, ReadFailed}
use Rattle.replay_script.specs.declared.script.End.TheVariants.{WriteFailed, Memory as NoMemory}
use Rattle.replay_script.specs.declared.sources.Sources.{Sources}

-- what was read as the next line: its bytes up to the first line feed, or up to the end
pub record IsNext (bytes : List ℕ) : Type 0 where
  pub some : bytes ≢ []
  pub stops : StopsAt bytes 10

-- the next line of what was left was read, or there is none, or it could not be read
abbrev pub ReadsLine : Option (List ℕ) → List ℕ → Result ⊤ End → Type 0
ReadsLine left bytes (Ok _) = IsNext bytes
ReadsLine left bytes (Err Whole) = (bytes ≡ []) × IsAtEnd left
ReadsLine left bytes (Err ReadFailed) = ⊤
ReadsLine left bytes (Err NoMemory) = ⊤
ReadsLine left bytes (Err _) = ⊥

-- a session whose text is empty and that has read nothing
pub record IsNew {G : Type 0} (s : State G) : Type 0 where
  pub text : s.text ≡ []
  pub held : s.held ≡ None
  pub trees : s.trees ≡ []
  pub given_is : s.given ≡ 0

-- the same sources
abbrev pub KeepsAll : Sources → Sources → Type 0
KeepsAll old new = (n : ℕ) → source_in new n ≡ source_in old n

-- one source more, or in the place of the one of its number
abbrev pub Has : Sources → Sources → Source → Type 0
Has old new s = (n : ℕ) → source_in new n ≡ with_source s (source_in old) n

-- a source that was read is kept, or no memory is left for it
abbrev pub Keeps : Sources → Sources → Source → LineAnswer → Type 0
Keeps old new s (told.Source number definitions) =
    (number ≡ s.number) × (definitions ≡ length s.items) × Has old new s
Keeps old new s (told.Refused Memory) = KeepsAll old new
Keeps old new s _ = ⊥

-- the sources after a text was read, or not
abbrev pub SourcesAfter : Sources → Sources → ℕ → Option Home → List ℕ → LineAnswer → Type 0
SourcesAfter old new n home text (told.Source number definitions) =
    (s : Source) × (source_read n home text ≡ Ok s) × Has old new s
SourcesAfter old new n home text _ = KeepsAll old new

pub record Reads (old new : Sources) (n : ℕ) (home : Option Home) (text : List ℕ)
    (answer : LineAnswer) : Type 0 where
  pub is_answer : IsSourceAnswer n home text answer
  pub kept : SourcesAfter old new n home text answer

-- the session after words picked definitions, or not
abbrev pub SessionAfter : {G : Type 0} → State G → State G → Sources → List Pick → LineAnswer
    → Type 0
SessionAfter old new sources picks (told.Prelude count) =
    (ps : List Picked) × (all_picked (source_in sources) picks ≡ Some ps)
    × (new ≡ record old { prelude = prelude_of ps })
SessionAfter old new sources picks _ = new ≡ old

pub record Picks {G : Type 0} (old new : State G) (sources : Sources) (picks : List Pick)
    (answer : LineAnswer) : Type 0 where
  pub is_answer : IsPreludeAnswer (source_in sources) picks answer
  pub kept : SessionAfter old new sources picks answer

-- a source has a number that is no text's, and a text that is short enough
abbrev pub IsAnswerable : Line → Type 0
IsAnswerable (asked.Source n home text) = IsSourceNumber n × (length (string_bytes text) < 2 ^ 32)
IsAnswerable _ = ⊤

-- a text that cannot be read as a source is short enough
abbrev pub IsShort : LineAnswer → Type 0
IsShort (told.Unread number text fault) = length (string_bytes text) < 2 ^ 32
IsShort _ = ⊤

-- the answer to a line, and the session and the sources after it
abbrev pub LineTurn : {G : Type 0} → Layers → State G → State G → Sources → Sources → Line
    → LineAnswer → Type 0
LineTurn layers old new had have (asked.Command command) (told.Command answer) =
    Turn layers old new command answer × KeepsAll had have
LineTurn layers old new had have (asked.Command command) _ = ⊥
LineTurn layers old new had have (asked.Source n home text) answer =
    (new ≡ old) × Reads had have n home (string_bytes text) answer
LineTurn layers old new had have (asked.Prelude picks) answer =
    Picks old new had picks.items answer × KeepsAll had have

-- a line is answered
pub record Answering {G : Type 0} (layers : Layers) (old new : State G) (had have : Sources)
    (bytes : List ℕ) (form : Form) (origins : Bool) (told : List ℕ) : Type 0 where
  pub line : List ℕ
  pub is_line : HasLine bytes line []
  pub asked : Line
  pub says : Says line asked
  pub answer : LineAnswer
  pub turn : LineTurn layers old new had have asked answer
  pub is_told : told ≡ written form origins new.text answer

-- a line was answered and its answer written, or why not
abbrev pub AnswersLine : {G : Type 0} → Layers → State G → State G → Sources → Sources → List ℕ
    → Form → Bool → (List ℕ → Type 0) → Result ⊤ End → Type 0
AnswersLine layers old new had have bytes form origins writes (Ok _) =
    (told : List ℕ) × Answering layers old new had have bytes form origins told × writes told
AnswersLine layers old new had have bytes form origins writes (Err WriteFailed) =
    (told : List ℕ) × Answering layers old new had have bytes form origins told
    × ((k : ℕ) × writes (take k told))
AnswersLine layers old new had have bytes form origins writes (Err (Wrong wrong)) =
    IsWrongLine bytes wrong × writes []
AnswersLine layers old new had have bytes form origins writes (Err NoMemory) = writes []
AnswersLine layers old new had have bytes form origins writes (Err _) = ⊥
