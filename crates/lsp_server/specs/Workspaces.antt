-- What keeps the client's texts and answers about them.
use Rattle.std.specs.Prelude.{◌≡◌, ◌⊎◌, ℕ, List, [], ◌∷◌, ◌++◌, codes, Option, Some, None, ⊤}
use Rattle.serde_json.specs.Data.{Data}
use Rattle.rpc_messages.specs.Messages.{notification}
use Rattle.client_texts.specs.Params.{Note, opened, edited, closed}
use Rattle.client_texts.specs.Texts.{Document, after, without}

-- the text that a note is about
abbrev pub name_of : Note → List ℕ
name_of (opened uri version text) = uri
name_of (edited uri version changes) = uri
name_of (closed uri) = uri

-- a message shows the diagnostics of a text
abbrev pub IsPublished : Data → Type 0
IsPublished message =
    (params : Data) × (message ≡ notification (codes "textDocument/publishDiagnostics") params)

-- a message is shown to the user
abbrev pub IsShown : Data → Type 0
IsShown message =
    (params : Data) × (message ≡ notification (codes "window/showMessage") params)

-- a message, if there is one
abbrev pub listed : Option Data → List Data
listed None = []
listed (Some message) = message ∷ []

-- a message shows the diagnostics of a text, if there is one
abbrev pub IsPublishedIf : Option Data → Type 0
IsPublishedIf None = ⊤
IsPublishedIf (Some message) = IsPublished message

-- the texts follow what the client tells, and it is told the diagnostics of the text, or nothing;
-- or there was no memory for the text, which is no longer followed, and the user is told
abbrev pub Begins : Note → (old new : List Document) → Option Data → Type 0
Begins note old new None = new ≡ after note old
Begins note old new (Some message) = ((new ≡ after note old) × IsPublished message)
    ⊎ ((new ≡ without (name_of note) old) × IsShown message)

-- in order, each text stays, and the client is told its diagnostics, or nothing; or there was no
-- memory for the text, which is no longer followed, and the user is told
abbrev pub Remain : (old new : List Document) → List Data → Type 0
Remain [] new messages = (new ≡ []) × (messages ≡ [])
Remain (d ∷ ds) new messages =
    ((rest : List Document) × (message : Option Data) × (more : List Data) × (new ≡ d ∷ rest)
    × (messages ≡ listed message ++ more) × IsPublishedIf message × Remain ds rest more)
    ⊎ ((message : Data) × (more : List Data) × (messages ≡ message ∷ more) × IsShown message
    × Remain ds new more)

-- the texts follow what the client tells, which may change what others of them are told
pub record Follows (note : Note) (old new : List Document) (messages : List Data) : Type 0 where
  pub first : Option Data
  pub between : List Document
  pub begins : Begins note old between first
  pub more : List Data
  pub remain : Remain between new more
  pub all : messages ≡ listed first ++ more
