-- What the user is shown where a text is no longer followed. (LSP 3.17, "ShowMessage Notification".)
use Rattle.std.specs.Prelude.{List, ℕ, ◌++◌, codes}
use Rattle.serde_json.specs.Data.{Data, number, object, string, member, no_members, unsigned}
use Rattle.expander_run.specs.Lines.{refusal_words}
use Rattle.rpc_messages.specs.Messages.{notification}
use Rattle.session_workspace.specs.declared.lost.Lost.{Lost}
use Rattle.session_workspace.specs.declared.lost.Lost.TheVariants.{Refused, TooLong}

-- why it is not
abbrev pub loss_words : Lost → List ℕ
loss_words (Refused refusal) = refusal_words refusal
loss_words TooLong = codes "more than 4294967295 bytes"

-- the text's name and these words
abbrev pub loss_text : (uri words : List ℕ) → List ℕ
loss_text uri words =
    uri ++ (codes ": " ++ (words ++ codes "; it is not followed until it is opened again"))

-- that is shown as an error
abbrev pub loss_message : (uri words : List ℕ) → Data
loss_message uri words =
    notification (codes "window/showMessage")
    (object (member (codes "message") (string (loss_text uri words))
    (member (codes "type") (number (unsigned 1)) no_members)))
