-- The answers to the lines of a script, each by what the lines before it left. (Of this project.)
use Rattle.std.specs.Prelude.{◌≡◌, ℕ, List, [], ◌∷◌, length, Option, Some, None, Result, Ok, Err}
use Rattle.std.specs.Prelude.{string_bytes, ⊤}
use Rattle.bridge.specs.ReadText as text_tokens
use Rattle.bridge.specs.TokenSteps.{text_reading, text_steps}
use Rattle.bridge.specs.declared.reading.outcome.ReadFault.{ReadFault}
use Rattle.tt_data.specs.Forest.{Forest}
use Rattle.expander_model.specs.Meaning.{Layers, ReadMeaning, meaning_in}
use Rattle.expander_scope.specs.declared.refusal.Refusal.TheVariants.{Memory, Tokens, Numbers}
use Rattle.expander_session.specs.Answers.{CanEdit, text_after}
use Rattle.expander_session.specs.Count.{Looked}
use Rattle.expander_session.specs.Replies.{IsReplyIn, NeedsNumbersIn, all_definitions, given_in}
use Rattle.expander_session.specs.Replies.{looked_in}
use Rattle.expander_session.specs.State.{definitions_of}
use Rattle.expander_session.specs.TooMany.{NeedsTooManyIn}
use Rattle.expander_session.specs.declared.commands.Answer.{Answer}
use Rattle.expander_session.specs.declared.commands.Answer.TheVariants.{Edited, BadEdit}
use Rattle.expander_session.specs.declared.commands.Answer.TheVariants.{Reply as Replied, Refused}
use Rattle.expander_session.specs.declared.commands.Command.{Command}
use Rattle.expander_session.specs.declared.commands.Command.TheVariants.{Edit, Expand}
use Rattle.expander_session.specs.declared.session.Reply.TheVariants.{Read}
use Rattle.expander_sources.specs.Homes.{Home}
use Rattle.expander_sources.specs.Sources.{Source, source_items}
use Rattle.replay_script.specs.Picks.{Picked, SourceTable, all_picked, count_of, prelude_of}
use Rattle.replay_script.specs.Picks.{with_source}
use Rattle.replay_script.specs.declared.answer.LineAnswer.{LineAnswer}
use Rattle.replay_script.specs.declared.answer.LineAnswer.TheVariants as told
use Rattle.replay_script.specs.declared.line.Line.{Line}
use Rattle.replay_script.specs.declared.line.Line.TheVariants as asked
use Rattle.replay_script.specs.declared.line.Pick.{Pick}

-- ---- where a script stands

-- a text that was read, and the definitions that it was read after
pub record Reading : Type 0 where
  pub prelude : List Forest
  pub text : List ℕ

-- the text, the definitions that it is expanded after, the sources, and what was read so far, the
-- newest first
pub record Progress : Type 0 where
  pub text : List ℕ
  pub prelude : List Forest
  pub sources : SourceTable
  pub readings : List Reading

-- before the first line: no text, no source, nothing read
abbrev pub begun_with : List Forest → Progress
begun_with prelude = record { text = []; prelude = prelude; sources = λ n. None; readings = [] }

-- the present text, to be read
abbrev pub present : Progress → Reading
present at = record { prelude = at.prelude; text = at.text }

-- a text that was expanded and could be read becomes the newest of those read
abbrev pub readings_after : Progress → Answer → List Reading
readings_after at (Replied (Read e)) = present at ∷ at.readings
readings_after at _ = at.readings

abbrev pub after_command : Progress → Command → Answer → Progress
after_command at command answer =
    record at { text = text_after at.text command answer; readings = readings_after at answer }

-- what a text of this number and home is as a source
abbrev pub source_of : ℕ → Option Home → Result Forest ReadFault → Result Source ReadFault
source_of number home (Ok f) =
    Ok (record { number = number; home = home; items = source_items number f })
source_of number home (Err fault) = Err fault

abbrev pub source_read : ℕ → Option Home → List ℕ → Result Source ReadFault
source_read number home text = source_of number home (text_reading text)

abbrev pub after_source : Progress → Result Source ReadFault → Progress
after_source at (Ok s) = record at { sources = with_source s at.sources }
after_source at (Err fault) = at

abbrev pub after_picks : Progress → Option (List Picked) → Progress
after_picks at (Some ps) = record at { prelude = prelude_of ps }
after_picks at None = at

-- where the script stands after a line with this answer: only a source that was read, and a prelude
-- that was picked, change something beside commands
abbrev pub after : Progress → Line → LineAnswer → Progress
after at (asked.Command command) (told.Command answer) = after_command at command answer
after at (asked.Source n home text) (told.Source m definitions) =
    after_source at (source_read n home (string_bytes text))
after at (asked.Prelude picks) (told.Prelude count) =
    after_picks at (all_picked at.sources picks.items)
after at _ _ = at

-- ---- what may answer a line

-- a text is read as a source with so many definitions
abbrev pub IsSourceTold : Result Source ReadFault → ℕ → ℕ → Type 0
IsSourceTold (Ok s) number definitions = (number ≡ s.number) × (definitions ≡ length s.items)
IsSourceTold (Err fault) number definitions = ⊥

-- so many definitions are picked
abbrev pub IsPreludeTold : Option (List Picked) → ℕ → Type 0
IsPreludeTold (Some ps) count = count ≡ count_of ps
IsPreludeTold None count = ⊥

-- what may answer a text that is to be a source
abbrev pub IsSourceAnswer : ℕ → Option Home → List ℕ → LineAnswer → Type 0
IsSourceAnswer n home text (told.Source m definitions) =
    IsSourceTold (source_read n home text) m definitions
IsSourceAnswer n home text (told.Unread m source fault) =
    (m ≡ n) × (string_bytes source ≡ text) × (source_read n home text ≡ Err fault)
IsSourceAnswer n home text (told.Refused Memory) = ⊤
IsSourceAnswer n home text (told.Refused Tokens) = text_tokens.HasTooMany (text_steps text)
IsSourceAnswer n home text _ = ⊥

-- what may answer words that pick definitions
abbrev pub IsPreludeAnswer : SourceTable → List Pick → LineAnswer → Type 0
IsPreludeAnswer sources picks (told.Prelude count) = IsPreludeTold (all_picked sources picks) count
IsPreludeAnswer sources picks told.BadPrelude = all_picked sources picks ≡ None
IsPreludeAnswer sources picks (told.Refused Memory) = ⊤
IsPreludeAnswer sources picks (told.Refused Tokens) = ⊤
IsPreludeAnswer sources picks _ = ⊥

module _ (layers : Layers) (depth : ℕ) where
  -- what a text means after these definitions
  abbrev pub meaning_of_reading : Reading → Result ReadMeaning ReadFault
  meaning_of_reading r = meaning_in layers depth (definitions_of r.prelude) r.text

  -- the plain pieces of the last text that was read: none before the first
  abbrev pub looked_last : List Reading → Option (List Looked)
  looked_last [] = None
  looked_last (r ∷ before) = Some (looked_in (meaning_of_reading r))

  -- the definitions that it was read after, and its own
  abbrev pub trees_last : List Reading → List Forest
  trees_last [] = []
  trees_last (r ∷ before) = all_definitions r.prelude (meaning_of_reading r)

  -- how many ids were given to definitions
  abbrev pub given_to : List Reading → ℕ
  given_to [] = 0
  given_to (r ∷ before) =
      given_in (given_to before) (trees_last before) r.prelude (meaning_of_reading r)

  -- what may answer a command, as `IsAnswer` says it without a prelude
  abbrev pub IsCommandAnswer : Progress → Command → Answer → Type 0
  IsCommandAnswer at (Edit start stop replacement) Edited =
      CanEdit at.text start stop (string_bytes replacement)
  IsCommandAnswer at (Edit start stop replacement) BadEdit =
      CanEdit at.text start stop (string_bytes replacement) → ⊥
  IsCommandAnswer at (Edit start stop replacement) (Refused Memory) =
      CanEdit at.text start stop (string_bytes replacement)
  IsCommandAnswer at Expand (Replied reply) =
      IsReplyIn layers depth (definitions_of at.prelude) at.text (looked_last at.readings) reply
  IsCommandAnswer at Expand (Refused Memory) = ⊤
  IsCommandAnswer at Expand (Refused Tokens) =
      NeedsTooManyIn layers depth (definitions_of at.prelude) at.text
  IsCommandAnswer at Expand (Refused Numbers) =
      NeedsNumbersIn (given_to at.readings) (trees_last at.readings) at.prelude
      (meaning_of_reading (present at))
  IsCommandAnswer at _ _ = ⊥

  -- what may answer a line
  abbrev pub IsLineAnswer : Progress → Line → LineAnswer → Type 0
  IsLineAnswer at (asked.Command command) (told.Command answer) = IsCommandAnswer at command answer
  IsLineAnswer at (asked.Command command) _ = ⊥
  IsLineAnswer at (asked.Source n home text) answer =
      IsSourceAnswer n home (string_bytes text) answer
  IsLineAnswer at (asked.Prelude picks) answer = IsPreludeAnswer at.sources picks.items answer

  -- each line has one answer, by where the script stands at its turn
  abbrev pub AreLineAnswers : Progress → List Line → List LineAnswer → Type 0
  AreLineAnswers at [] [] = ⊤
  AreLineAnswers at (line ∷ lines) (answer ∷ answers) =
      IsLineAnswer at line answer × AreLineAnswers (after at line answer) lines answers
  AreLineAnswers at [] (answer ∷ answers) = ⊥
  AreLineAnswers at (line ∷ lines) [] = ⊥
