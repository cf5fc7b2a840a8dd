-- The texts of a workspace, and what the client is sent for them. (Of this project.)
use Rattle.std.specs.Prelude.{◌≡◌, ◌⊎◌, ◌<◌, ◌+◌, ◌++◌, ℕ, ℤ, Bool, true, false, List, [], ◌∷◌}
use Rattle.std.specs.Prelude.{bytes_eq, drop, if◌then◌else◌, length, map, string_bytes, take}
use Rattle.std.specs.Prelude.{Option, Some, None, option_map, Result, Ok, Err, ⊤}
use Rattle.serde_json.specs.Data.{Data}
use Rattle.client_texts.specs.Params.{Change, Note, opened, edited, closed}
use Rattle.client_texts.specs.Texts.{Document, after_edit}
use Rattle.any_grammar.specs.Answer.{answer}
use Rattle.any_grammar.specs.declared.chosen.AnyGrammar.{AnyGrammar}
use Rattle.expander_scope.specs.declared.refusal.Refusal.{Refusal}
use Rattle.expander_session.specs.declared.session.Reply.{Reply}
use Rattle.expander_session.specs.declared.session.Reply.TheVariants.{Read, Unread}
use Rattle.expander_session.specs.Count.{Looked}
use Rattle.expander_session.specs.Replies.{HasCause, IsReplyIn}
use Rattle.expander_session.specs.State.{State, definitions_of, layers_of}
use Rattle.lsp_server.specs.Workspaces.{IsShown, listed, name_of}
use Rattle.tt_data.specs.Forest.{Forest}
use Rattle.session_workspace.specs.Diagnostics.{diagnostics_of, publication, withdrawal}
use Rattle.session_workspace.specs.declared.open_text.OpenText.{OpenText}
use Rattle.session_workspace.specs.declared.told.Told.{Told}
use Rattle.session_workspace.specs.declared.told.Told.TheVariants as told
use Rattle.session_workspace.specs.declared.workspace.Shown.{Shown}
use Rattle.session_workspace.specs.declared.workspace.Shown.TheVariants as which

-- an open text as the client knows it: the text is that of its session
abbrev pub document_of : OpenText → Document
document_of t =
    record { uri = string_bytes t.uri; version = t.version; text = t.session.text }

abbrev pub documents_of : List OpenText → List Document
documents_of texts = map document_of texts

-- the last text that could be read, where one is kept since the open one cannot be
abbrev pub earlier_of : OpenText → Option (List ℕ)
earlier_of t = option_map string_bytes t.earlier

-- what is kept of an open text that is edited: its bytes if it could be read, and else what was
-- kept
abbrev pub kept_of : OpenText → Option (List ℕ)
kept_of t = if t.is_read then Some t.session.text else earlier_of t

-- a text has this name
abbrev pub is_named : List ℕ → OpenText → Bool
is_named uri t = bytes_eq uri (string_bytes t.uri)

-- no text has this name
abbrev pub HaveNone : List ℕ → List OpenText → Type 0
HaveNone uri [] = ⊤
HaveNone uri (t ∷ ts) = (is_named uri t ≡ false) × HaveNone uri ts

-- the first of these texts that has this name is that of this index
pub record IsFirst (uri : List ℕ) (texts : List OpenText) (i : ℕ) : Type 0 where
  pub text : OpenText
  pub within : i < length texts
  pub is : drop i texts ≡ text ∷ drop (i + 1) texts
  pub named : is_named uri text ≡ true
  pub before : HaveNone uri (take i texts)

-- the index of the first of these texts that has this name, if one has it
abbrev pub IsFirstOf : List ℕ → List OpenText → Option ℕ → Type 0
IsFirstOf uri texts None = HaveNone uri texts
IsFirstOf uri texts (Some i) = IsFirst uri texts i

-- what a session gives for its text: what the text means by its options after its prelude, or why
-- there is no reply
abbrev pub IsGiven : State AnyGrammar → Result Reply Refusal → Type 0
IsGiven s (Ok reply) = (earlier : Option (List Looked))
    × IsReplyIn (layers_of answer s) s.depth (definitions_of s.prelude) s.text earlier reply
IsGiven s (Err refusal) = HasCause (layers_of answer s) s refusal

-- a session's text could be read
abbrev pub is_expansion : Result Reply Refusal → Bool
is_expansion (Ok (Read expansion)) = true
is_expansion _ = false

-- what a client was told last of a text is what a session gives: the same faults, the same reading
-- fault, or the same reason why there is no reply
abbrev pub IsToldOf : Told → Result Reply Refusal → Type 0
IsToldOf (told.Faults faults) (Ok (Read e)) = faults.items ≡ e.faults
IsToldOf (told.Unread fault) (Ok (Unread given)) = fault ≡ given
IsToldOf (told.Refused refusal) (Err given) = refusal ≡ given
IsToldOf _ _ = ⊥

abbrev pub WasTold : Option Told → Result Reply Refusal → Type 0
WasTold (Some t) given = IsToldOf t given
WasTold None given = ⊥

-- ---- what the client is sent for a text

-- a message for a text: its diagnostics, by what its session gives; none for a text that the client
-- did not change, where it was told the same before, and only then
abbrev pub Sends : (is_own : Bool) → (old new : OpenText) → Result Reply Refusal → Option Data
    → Type 0
Sends is_own old new given (Some message) = (is_own ≡ false → WasTold old.told given → ⊥)
    × (message ≡ publication (string_bytes new.uri) new.version
    (diagnostics_of new.session.text given))
Sends is_own old new given None = (is_own ≡ false) × (new.told ≡ old.told)

-- a text's diagnostics are told: another text is in its place, which is noted to be told of what
-- its session gives. The last text that could be read is kept, unless this one can be
pub record IsTold (is_own : Bool) (old new : OpenText) (message : Option Data) : Type 0 where
  pub given : Result Reply Refusal
  pub is_given : IsGiven new.session given
  pub told : WasTold new.told given
  pub is_read : new.is_read ≡ is_expansion given
  pub same : document_of new ≡ document_of old
  pub prelude : new.session.prelude ≡ old.session.prelude
  pub keeps : earlier_of new ≡ (if new.is_read then None else earlier_of old)
  pub sends : Sends is_own old new given message

-- what a client is sent for a text, if it is sent diagnostics at all
abbrev pub IsToldBy : Shown → (is_own : Bool) → (old new : OpenText) → Option Data → Type 0
IsToldBy which.All is_own old new message = IsTold is_own old new message
IsToldBy which.Nothing is_own old new message = (new ≡ old) × (message ≡ None)

-- what may be given to a text of a name: the definitions of other texts, in order
abbrev pub Gives : Type 1
Gives = (uri : List ℕ) → (prelude : List Forest) → Type 0

-- a text's session has definitions anew, if they may be others than before
abbrev pub IsOver : Gives → (changed : Bool) → (old new : OpenText) → Type 0
IsOver gives true old new = (prelude : List Forest) × gives (string_bytes old.uri) prelude
    × (new ≡ record old { session = record old.session { prelude = prelude } })
IsOver gives false old new = new ≡ old

-- what becomes of a text, and what the client is sent for it: nothing where neither the client
-- changed it nor definitions changed
abbrev pub IsRefreshed : Gives → Shown → (is_own changed : Bool) → (old new : OpenText)
    → Option Data → Type 0
IsRefreshed gives shown false false old new message = (new ≡ old) × (message ≡ None)
IsRefreshed gives shown is_own changed old new message =
    (over : OpenText) × IsOver gives changed old over × IsToldBy shown is_own over new message

-- this comes of each text, where the client told of the text of this name
abbrev pub Comes : Gives → Shown → (uri : List ℕ) → (changed : Bool) → (old new : OpenText)
    → Option Data → Type 0
Comes gives shown uri changed old new message =
    IsRefreshed gives shown (is_named uri old) changed old new message

-- ---- what the client is sent for all texts

-- in order, this comes of each text, and these messages go; or there was no memory for the text,
-- which is no longer followed, and the user is told
abbrev pub Each : (OpenText → OpenText → Option Data → Type 0) → (old new : List OpenText)
    → List Data → Type 0
Each Comes [] new messages = (new ≡ []) × (messages ≡ [])
Each Comes (t ∷ ts) new messages =
    ((u : OpenText) × (rest : List OpenText) × (message : Option Data) × (more : List Data)
    × (new ≡ u ∷ rest) × (messages ≡ listed message ++ more) × Comes t u message
    × Each Comes ts rest more)
    ⊎ ((message : Data) × (more : List Data) × (messages ≡ message ∷ more) × IsShown message
    × Each Comes ts new more)

-- the texts but for the first of this name
abbrev pub IsWithout : List ℕ → (old new : List OpenText) → Type 0
IsWithout uri old new = ((i : ℕ) × IsFirst uri old i × (new ≡ take i old ++ drop (i + 1) old))
    ⊎ (HaveNone uri old × (new ≡ old))

-- a text that the client opens, of which nothing was told
pub record IsOpened (gives : Gives) (d : Document) (t : OpenText) : Type 0 where
  pub document : document_of t ≡ d
  pub earlier : earlier_of t ≡ None
  pub unread : t.is_read ≡ false
  pub untold : t.told ≡ None
  pub prelude : gives d.uri t.session.prelude

-- the first text of a name is edited: another one is in its place, and the last text that could be
-- read is kept
pub record IsEdited (uri : List ℕ) (version : ℤ) (changes : List Change) (old new : List OpenText)
    : Type 0 where
  pub i : ℕ
  pub first : IsFirst uri old i
  pub text : OpenText
  pub placed : new ≡ take i old ++ text ∷ drop (i + 1) old
  pub document : document_of text ≡ after_edit version changes (document_of first.text)
  pub kept : earlier_of text ≡ kept_of first.text
  pub unread : text.is_read ≡ false
  pub prelude : text.session.prelude ≡ first.text.session.prelude

-- the user is shown that a text is no longer followed
abbrev pub IsLost : Option Data → Type 0
IsLost (Some message) = IsShown message
IsLost None = ⊥

-- what a client tells is done, before diagnostics are told: a text is opened or edited, if there is
-- one; or there was no memory for that. For one that is closed goes that it has no diagnostics
abbrev pub Starts : Gives → Note → (old new : List OpenText) → Option Data → Type 0
Starts gives (opened uri version text) old new message =
    ((rest : List OpenText) × (t : OpenText) × IsWithout uri old rest × (new ≡ rest ++ t ∷ [])
    × IsOpened gives (record { uri = uri; version = version; text = text }) t × (message ≡ None))
    ⊎ (IsWithout uri old new × IsLost message)
Starts gives (edited uri version changes) old new message =
    (IsEdited uri version changes old new × (message ≡ None))
    ⊎ ((HaveNone uri old × (new ≡ old) × (message ≡ None))
    ⊎ (IsWithout uri old new × IsLost message))
Starts gives (closed uri) old new message =
    IsWithout uri old new × (message ≡ Some (withdrawal uri))

-- what a client is sent after what it tells, where texts are given these definitions before and
-- those after
pub record Tells (before after : Gives) (shown : Shown) (note : Note) (old new : List OpenText)
    (messages : List Data) : Type 0 where
  pub first : Option Data
  pub between : List OpenText
  pub starts : Starts before note old between first
  -- whether definitions may be others than before
  pub changed : Bool
  pub unchanged : changed ≡ false → (uri : List ℕ) (prelude : List Forest) → before uri prelude
      → after uri prelude
  pub more : List Data
  pub each : Each (Comes after shown (name_of note) changed) between new more
  pub all : messages ≡ listed first ++ more

-- ---- what holds of each open text

-- the client was told of a text what its session gives, if it is sent diagnostics at all
abbrev pub IsToldNow : Shown → OpenText → Type 0
IsToldNow which.All t = (given : Result Reply Refusal) × IsGiven t.session given
    × WasTold t.told given
IsToldNow which.Nothing t = ⊤

-- a text has the definitions that it is given, and the client was told what it gives
pub record IsSettled (gives : Gives) (shown : Shown) (t : OpenText) : Type 0 where
  pub prelude : gives (string_bytes t.uri) t.session.prelude
  pub told : IsToldNow shown t
