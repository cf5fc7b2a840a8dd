-- The answers to a script, line by line, and how it ends. (Of this project.)
use Rattle.std.specs.Prelude.{◌≡◌, ◌≢◌, ℕ, ◌+◌, Bool, true, false, List, [], ◌++◌, length, take}
use Rattle.std.specs.Prelude.{Option, IfSome, codes, if◌then◌else◌, ⊤}
use Rattle.std.specs.Io.KnownBytes.{Consumes}
use Rattle.expander_model.specs.Meaning.{Layers}
use Rattle.tt_data.specs.Forest.{Forest}
use Rattle.replay_script.specs.Progress.{AreLineAnswers, begun_with}
use Rattle.replay_script.specs.Scripts.{AreSaid, IsWrongLine}
use Rattle.replay_script.specs.Written.{all_written}
use Rattle.replay_script.specs.declared.answer.LineAnswer.{LineAnswer}
use Rattle.replay_script.specs.declared.form.Form.{Form}
use Rattle.replay_script.specs.declared.line.Line.{Line}
use Rattle.replay_script.specs.declared.script.Answered.{Answered}
use Rattle.replay_script.specs.declared.script.End.{End}
use Rattle.replay_script.specs.declared.script.End.TheVariants.{Whole, Wrong, WriteFailed}

-- the line that asks for origins
abbrev pub asking : List ℕ
asking = codes "origins\n"

-- a script's lines: those after the line that asks for origins if it begins with it, else all
abbrev pub HasHead : List ℕ → Bool → List ℕ → Type 0
HasHead text true lines = text ≡ asking ++ lines
HasHead text false lines = (text ≡ lines) × ((rest : List ℕ) → text ≢ asking ++ rest)

-- the answers to these lines in a form, each at its turn, over an empty text at first
abbrev pub AreTold : Layers → ℕ → List Forest → Form → List Line → Bool → List ℕ → Type 0
AreTold layers depth prelude form lines origins told =
    (answers : List LineAnswer) × AreLineAnswers layers depth (begun_with prelude) lines answers
    × (told ≡ all_written form origins (begun_with prelude) lines answers)

-- a script of so many lines, but for the one that asks for origins, and the answers in a form. It
-- begins with this prelude
pub record IsReplayed (layers : Layers) (depth : ℕ) (prelude : List Forest) (form : Form)
    (script : List ℕ) (count : ℕ) (told : List ℕ) : Type 0 where
  pub origins : Bool
  pub rest : List ℕ
  pub head : HasHead script origins rest
  pub lines : List Line
  pub said : AreSaid rest lines []
  pub all : AreTold layers depth prelude form lines origins told
  pub counted : count ≡ length lines + (if origins then 1 else 0)

-- what was written: the answers, or the first bytes of them if the writer failed
abbrev pub IsWritten : End → (List ℕ → Type 0) → List ℕ → Type 0
IsWritten WriteFailed writes told = (k : ℕ) × writes (take k told)
IsWritten _ writes told = writes told

-- why no line follows: the script is all that the reader had, or what was read next is wrong
abbrev pub HasEnd : End → Option (List ℕ) → List ℕ → List ℕ → Type 0
HasEnd Whole had script next = (next ≡ []) × IfSome had (λ bytes. bytes ≡ script)
HasEnd (Wrong wrong) had script next = IsWrongLine next wrong
HasEnd _ had script next = ⊤

-- how many lines were read: all that were answered, and a wrong one
abbrev pub HasCount : End → ℕ → ℕ → Type 0
HasCount Whole lines count = lines ≡ count
HasCount (Wrong wrong) lines count = lines ≡ count + 1
HasCount _ lines count = ⊤

-- a script is read from what a reader had left, and answered line by line, after these definitions
-- at first: the lines that were answered are a script by themselves, and what was read next is no
-- part of it
pub record Answers (layers : Layers) (depth : ℕ) (prelude : List Forest) (form : Form)
    (had left : Option (List ℕ)) (writes : List ℕ → Type 0) (result : Answered) : Type 0 where
  pub script : List ℕ
  pub next : List ℕ
  pub count : ℕ
  pub told : List ℕ
  pub read : Consumes had left (script ++ next)
  pub replayed : IsReplayed layers depth prelude form script count told
  pub written : IsWritten result.«end» writes told
  pub ends : HasEnd result.«end» had script next
  pub lines : HasCount result.«end» result.lines count
