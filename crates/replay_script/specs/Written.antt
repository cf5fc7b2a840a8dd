-- Answers as they are written, as text or as JSON. (Of this project.)
use Rattle.std.specs.Prelude.{ℕ, ◌^◌, Bool, List, [], ◌∷◌, ◌++◌, codes, length, nat_lt}
use Rattle.std.specs.Prelude.{string_bytes, if◌then◌else◌}
use Rattle.serde_json.specs.Data.{Data}
use Rattle.serde_json.specs.Written.{compact_text}
use Rattle.expander.specs.Expanded.{Expanded}
use Rattle.expander_session.specs.declared.commands.Answer.{Answer}
use Rattle.expander_session.specs.declared.commands.Answer.TheVariants.{Edited, BadEdit, Refused}
use Rattle.expander_session.specs.declared.commands.Answer.TheVariants.{Reply as Replied}
use Rattle.expander_session.specs.declared.session.Reply.{Reply}
use Rattle.expander_session.specs.declared.session.Reply.TheVariants.{Read, Unread}
use Rattle.reply_json.specs.Lines as lines
use Rattle.replay_script.specs.Progress.{Progress, after}
use Rattle.replay_script.specs.Told.{answer_told}
use Rattle.replay_script.specs.declared.answer.LineAnswer.{LineAnswer}
use Rattle.replay_script.specs.declared.answer.LineAnswer.TheVariants as told
use Rattle.replay_script.specs.declared.form.Form.{Form}
use Rattle.replay_script.specs.declared.form.Form.TheVariants.{Json, Text}
use Rattle.replay_script.specs.declared.line.Line.{Line}

-- ---- as JSON

-- an expansion of a text, if its printed text is short enough for places
abbrev pub expansion_value : List ℕ → Expanded → Data
expansion_value text e =
    if nat_lt (length e.printed) (2 ^ 32) then lines.expansion text e else lines.too_long

-- a reply to a text
abbrev pub reply_value : List ℕ → Reply → Data
reply_value text (Read e) = expansion_value text e
reply_value text (Unread fault) = lines.unread text fault

-- the answer to a command, after which the session has this text
abbrev pub command_value : List ℕ → Answer → Data
command_value text Edited = lines.bare (codes "edited")
command_value text BadEdit = lines.bare (codes "bad_edit")
command_value text (Replied reply) = reply_value text reply
command_value text (Refused refusal) = lines.refused refusal

-- the answer to a line, after which the session has this text
abbrev pub answer_value : List ℕ → LineAnswer → Data
answer_value text (told.Command answer) = command_value text answer
answer_value text (told.Source number definitions) = lines.source_read number definitions
answer_value text (told.Unread number source fault) =
    lines.source_unread number (string_bytes source) fault
answer_value text (told.Prelude count) = lines.prelude count
answer_value text told.BadPrelude = lines.bare (codes "bad_prelude")
answer_value text (told.Refused refusal) = lines.refused refusal

-- ---- in either form

-- an answer in a form, after which the session has this text: lines of text, with origins or not, or
-- one line of JSON
abbrev pub written : Form → Bool → List ℕ → LineAnswer → List ℕ
written Text origins text answer = answer_told origins answer
written Json origins text answer = compact_text (answer_value text answer) ++ 10 ∷ []

-- one answer after another, from where a script stands
abbrev pub all_written : Form → Bool → Progress → List Line → List LineAnswer → List ℕ
all_written form origins at (line ∷ lines) (answer ∷ answers) =
    written form origins (after at line answer).text answer
    ++ all_written form origins (after at line answer) lines answers
all_written form origins at _ _ = []
