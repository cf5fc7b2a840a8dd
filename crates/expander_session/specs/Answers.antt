-- The answers to a list of commands: each by the text at its turn.
use Rattle.std.specs.Prelude.{◌≡◌, ℕ, ◌+◌, ◌-◌, ◌≤◌, ◌<◌, ◌^◌, List, [], ◌∷◌, length, Option, Some}
use Rattle.std.specs.Prelude.{None, string_bytes, IsCharBoundary, ⊤}
use Rattle.rustc_lexer.specs.Edit.{edited}
use Rattle.tt_data.specs.Forest.{Forest}
use Rattle.expander_scope.specs.declared.refusal.Refusal.TheVariants.{Memory, Tokens, Numbers}
use Rattle.expander_session.specs.declared.session.Reply.{Reply}
use Rattle.expander_session.specs.declared.session.Reply.TheVariants.{Read, Unread}
use Rattle.expander_session.specs.declared.commands.Answer.{Answer}
use Rattle.expander_session.specs.declared.commands.Answer.TheVariants.{Edited, BadEdit}
use Rattle.expander_session.specs.declared.commands.Answer.TheVariants.{Reply as Replied, Refused}
use Rattle.expander_session.specs.declared.commands.Command.{Command}
use Rattle.expander_session.specs.declared.commands.Command.TheVariants.{Edit, Expand}
use Rattle.expander_session.specs.Count.{Looked}
use Rattle.expander_model.specs.Meaning.{Layers, meaning}
use Rattle.expander_session.specs.Replies.{IsReplyTo, NeedsNumbers, definitions_in, given_after}
use Rattle.expander_session.specs.Replies.{looked_in}
use Rattle.expander_session.specs.TooMany.{NeedsTooMany}

-- both offsets are character boundaries, in order, and the edited text fits
pub record CanEdit (text : List ℕ) (start stop : ℕ) (replacement : List ℕ) : Type 0 where
  pub from : IsCharBoundary text start
  pub to : IsCharBoundary text stop
  pub order : start ≤ stop
  pub fits : length text - (stop - start) + length replacement < 2 ^ 32

-- an edit that was made changes the text, and nothing else does
abbrev pub text_after : List ℕ → Command → Answer → List ℕ
text_after text (Edit start stop replacement) Edited =
    edited text start stop (string_bytes replacement)
text_after text _ _ = text

-- a text that was expanded and could be read becomes the newest of those read
abbrev pub reads_after : List ℕ → List (List ℕ) → Answer → List (List ℕ)
reads_after text reads (Replied (Read e)) = text ∷ reads
reads_after text reads _ = reads

-- the text after all commands, by their answers
abbrev pub last_text : List ℕ → List Command → List Answer → List ℕ
last_text text (command ∷ commands) (answer ∷ answers) =
    last_text (text_after text command answer) commands answers
last_text text _ _ = text

-- the texts that were read after all commands, by their answers, the newest first
abbrev pub last_reads : List ℕ → List (List ℕ) → List Command → List Answer → List (List ℕ)
last_reads text reads (command ∷ commands) (answer ∷ answers) =
    last_reads (text_after text command answer) (reads_after text reads answer) commands answers
last_reads text reads _ _ = reads

-- two replies show the same text, faults and origins, however many pieces were expanded for them
abbrev pub ShowTheSame : Reply → Reply → Type 0
ShowTheSame (Read e) (Read f) = (e.printed ≡ f.printed) × (e.faults ≡ f.faults)
    × (e.origins ≡ f.origins)
ShowTheSame (Unread fault) (Unread other) = fault ≡ other
ShowTheSame _ _ = ⊥

module _ (layers : Layers) (depth : ℕ) where
  -- the plain pieces of the last text that was read, given newest first: none before the first
  abbrev pub last_looked : List (List ℕ) → Option (List Looked)
  last_looked [] = None
  last_looked (text ∷ before) = Some (looked_in (meaning layers depth text))

  -- its definitions
  abbrev pub last_trees : List (List ℕ) → List Forest
  last_trees [] = []
  last_trees (text ∷ before) = definitions_in (meaning layers depth text)

  -- how many numbers were given to the definitions of these texts
  abbrev pub given : List (List ℕ) → ℕ
  given [] = 0
  given (text ∷ before) = given_after (given before) (last_trees before) (meaning layers depth text)

  -- what may answer a command at a text, after these texts that were read, the newest first
  abbrev pub IsAnswer : List ℕ → List (List ℕ) → Command → Answer → Type 0
  IsAnswer text reads (Edit start stop replacement) Edited =
      CanEdit text start stop (string_bytes replacement)
  IsAnswer text reads (Edit start stop replacement) BadEdit =
      CanEdit text start stop (string_bytes replacement) → ⊥
  IsAnswer text reads (Edit start stop replacement) (Refused Memory) =
      CanEdit text start stop (string_bytes replacement)
  IsAnswer text reads Expand (Replied reply) = IsReplyTo layers depth text (last_looked reads) reply
  IsAnswer text reads Expand (Refused Memory) = ⊤
  IsAnswer text reads Expand (Refused Tokens) = NeedsTooMany layers depth text
  IsAnswer text reads Expand (Refused Numbers) =
      NeedsNumbers (given reads) (last_trees reads) (meaning layers depth text)
  IsAnswer text reads _ _ = ⊥

  -- each command has one answer, by the text and the texts that were read at its turn
  abbrev pub AreAnswers : List ℕ → List (List ℕ) → List Command → List Answer → Type 0
  AreAnswers text reads [] [] = ⊤
  AreAnswers text reads (command ∷ commands) (answer ∷ answers) =
      IsAnswer text reads command answer
      × AreAnswers (text_after text command answer)
      (reads_after text reads answer) commands answers
  AreAnswers text reads [] (answer ∷ answers) = ⊥
  AreAnswers text reads (command ∷ commands) [] = ⊥
