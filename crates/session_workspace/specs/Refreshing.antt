-- Open texts that are told of, one after the other.
use Rattle.std.specs.Prelude.{◌≡◌, ◌++◌, ℕ, Bool, List, Option, None, Result, Ok, Err}
use Rattle.serde_json.specs.Data.{Data}
use Rattle.session_workspace.specs.OpenTexts.{Comes, Each, Gives, IsLost}
use Rattle.session_workspace.specs.declared.lost.Lost.{Lost}
use Rattle.session_workspace.specs.declared.open_text.OpenText.{OpenText}
use Rattle.session_workspace.specs.declared.workspace.Shown.{Shown}

-- what comes of texts is added to others and to messages
abbrev pub AreRefreshed : Gives → Shown → List ℕ → Bool → List OpenText
    → (others all : List OpenText) → (before after : List Data) → Type 0
AreRefreshed gives shown uri changed texts others all before after =
    (new : List OpenText) × (messages : List Data) × (all ≡ others ++ new)
    × (after ≡ before ++ messages) × Each (Comes gives shown uri changed) texts new messages

-- nothing goes at once for what was done, or the user is told why it was not
abbrev pub IsDone : {T : Type 0} → Result T Lost → Option Data → Type 0
IsDone (Ok done) message = message ≡ None
IsDone (Err lost) message = IsLost message
