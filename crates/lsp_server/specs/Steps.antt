-- One step of the server: a body comes, and messages go.
use Rattle.std.specs.Prelude.{◌≡◌, ℕ, ℤ, negsuc, List, [], ◌∷◌, codes, IsUtf8, length, map, Option, Some, None, option_and_then}
use Rattle.serde_json.specs.Data.{Data, null}
use Rattle.serde_json.specs.Find.{get, of_integer}
use Rattle.serde_json.specs.Read.{read}
use Rattle.rpc_messages.specs.Messages.{answered, asked, failure}
use Rattle.client_texts.specs.Params.{Note}
use Rattle.client_texts.specs.Texts.{Document}
use Rattle.lsp_server.specs.Protocol.{known_method, note_told, phase_asked, phase_told, refused}
use Rattle.lsp_server.specs.Workspaces.{Follows}
use Rattle.lsp_server.specs.declared.phase.Phase.{Phase}
use Rattle.lsp_server.specs.declared.phase.ErrorCode.{ErrorCode}
use Rattle.lsp_server.specs.declared.phase.ErrorCode.TheVariants.{NoJson, InvalidRequest, NotInitialized, UnknownMethod, InvalidParams, Failed}

-- the number of an error, and its words
abbrev pub number_of : ErrorCode → ℤ
number_of NoJson = negsuc 32699
number_of InvalidRequest = negsuc 32599
number_of NotInitialized = negsuc 32001
number_of UnknownMethod = negsuc 32600
number_of InvalidParams = negsuc 32601
number_of Failed = negsuc 32802

abbrev pub words_of : ErrorCode → List ℕ
words_of NoJson = codes "no JSON"
words_of InvalidRequest = codes "no request, or not wanted now"
words_of NotInitialized = codes "not initialized"
words_of UnknownMethod = codes "unknown method"
words_of InvalidParams = codes "parameters of another form, or no such document"
words_of Failed = codes "out of memory"

-- the answer with this id that tells of an error
abbrev pub error : ErrorCode → Data → Data
error code id = failure id (of_integer (number_of code)) (words_of code)

-- a body is a message, or none
abbrev pub Reads : List ℕ → Option Data → Type 0
Reads body (Some message) = IsUtf8 body × (read body ≡ Some message)
Reads body None = IsUtf8 body → read body ≡ None

-- the ids of the answers that a body asks for: one with no id where it is no message
abbrev pub asked_of : Option Data → List Data
asked_of (Some message) = asked message
asked_of None = null ∷ []

-- the phase after a message, by its method and its id
abbrev pub phase_by : Phase → Data → (method id : Option Data) → Phase
phase_by phase message (Some method) (Some id) = phase_asked phase (known_method message)
phase_by phase message (Some method) None = phase_told phase (known_method message)
phase_by phase message None id = phase

abbrev pub phase_after : Phase → Option Data → Phase
phase_after phase (Some message) =
    phase_by phase message (get (codes "method") message) (get (codes "id") message)
phase_after phase None = phase

-- what a message tells of the client's texts: only a notification does
abbrev pub note_by : Phase → Data → (method id : Option Data) → Option Note
note_by phase message (Some method) None = option_and_then
    (note_told phase (known_method message)) (get (codes "params") message)
note_by phase message _ id = None

abbrev pub note_in : Phase → Option Data → Option Note
note_in phase (Some message) =
    note_by phase message (get (codes "method") message) (get (codes "id") message)
note_in phase None = None

-- with which error a message is refused before it is looked at
abbrev pub refused_as : Phase → Data → (method id : Option Data) → Option ErrorCode
refused_as phase message (Some method) (Some id) = refused phase message
refused_as phase message None None = Some InvalidRequest
refused_as phase message _ _ = None

abbrev pub refusal_of : Phase → Option Data → Option ErrorCode
refusal_of phase (Some message) =
    refused_as phase message (get (codes "method") message) (get (codes "id") message)
refusal_of phase None = Some NoJson

-- the server, as callers see it: its phase, and what keeps the texts
pub record Serving (W : Type 0) : Type 0 where
  pub phase : Phase
  pub workspace : W

-- the texts follow what is told of them; else they stay, and nothing goes but the answers that are
-- asked for
abbrev pub TextsFollow : Option Note → (asked : List Data) → (old new : List Document) → List Data
    → Type 0
TextsFollow (Some note) asked old new outs = Follows note old new outs
TextsFollow None asked old new outs = (new ≡ old) × (length outs ≡ length asked)

-- a message comes, or a body that is none, and these messages go: each answer that is asked for,
-- once, and with its id; the phase and the texts are as the protocol has them
pub record Takes {W : Type 0} (documents : W → List Document) (old : Serving W)
    (message : Option Data) (outs : List Data) (new : Serving W) : Type 0 where
  pub each_answered : answered outs ≡ asked_of message
  pub phase : new.phase ≡ phase_after old.phase message
  pub texts : TextsFollow (note_in old.phase message) (asked_of message)
      (documents old.workspace) (documents new.workspace) outs
  pub errors : (code : ErrorCode) → refusal_of old.phase message ≡ Some code
      → outs ≡ map (error code) (asked_of message)

-- a body comes, and these messages go
pub record Steps {W : Type 0} (documents : W → List Document) (old : Serving W) (body : List ℕ)
    (outs : List Data) (new : Serving W) : Type 0 where
  pub message : Option Data
  pub reads : Reads body message
  pub takes : Takes documents old message outs new
