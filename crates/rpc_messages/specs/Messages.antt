-- Messages of JSON-RPC 2.0, as values. (JSON-RPC 2.0 Specification, 4 and 5.)
use Rattle.std.specs.Prelude.{◌≡◌, ℕ, List, [], ◌∷◌, codes, IsSome, Option, Some, None, option_and_then, option_map}
use Rattle.serde_json.specs.Data.{Num, Data, null, number, string, object, Members, member, no_members}
use Rattle.serde_json.specs.Find.{as_str, get}
use Rattle.serde_json.specs.View.{view}
use Rattle.rpc_messages.specs.declared.incoming.Call.{Call}
use Rattle.rpc_messages.specs.declared.incoming.Incoming.{Incoming}
use Rattle.rpc_messages.specs.declared.incoming.Incoming.TheVariants.{Request, Note, Answer, Bad}

-- ---- what comes

-- the ids of the answers that a message asks for, by its method and its id: a request asks for one
-- with its id, a notification and an answer for none, and what is no message for one with no id
abbrev pub asked_by : (method id : Option Data) → List Data
asked_by (Some method) (Some id) = id ∷ []
asked_by (Some method) None = []
asked_by None (Some id) = []
asked_by None None = null ∷ []

-- the ids of the answers that a message asks for
abbrev pub asked : Data → List Data
asked message = asked_by (get (codes "method") message) (get (codes "id") message)

-- the name of a message's method, if it is a text
abbrev pub method_of : Data → Option (List ℕ)
method_of message = option_and_then as_str (get (codes "method") message)

-- the ids of the answers that are asked for by what a message was read as
abbrev pub wanted : Incoming → List Data
wanted (Request id call) = view id.now ∷ []
wanted (Note call) = []
wanted Answer = []
wanted Bad = null ∷ []

-- a call's method and parameters are the message's
pub record Asks (message : Data) (call : Call) : Type 0 where
  pub has_method : IsSome (get (codes "method") message)
  pub method : option_map (λ m. m.now) call.method ≡ method_of message
  pub params : option_map (λ p. view p.now) call.params ≡ get (codes "params") message

-- a message was read as this, by whether it has a method and an id
abbrev pub IsReadAs : Data → Incoming → Type 0
IsReadAs message (Request id call) =
    (get (codes "id") message ≡ Some (view id.now)) × Asks message call
IsReadAs message (Note call) = (get (codes "id") message ≡ None) × Asks message call
IsReadAs message Answer =
    IsSome (get (codes "id") message) × (get (codes "method") message ≡ None)
IsReadAs message Bad =
    (get (codes "id") message ≡ None) × (get (codes "method") message ≡ None)

-- ---- what goes

abbrev pub version : Members → Members
version rest = member (codes "jsonrpc") (string (codes "2.0")) rest

-- the answer with this id and this result
abbrev pub response : Data → Data → Data
response id result =
    object (member (codes "id") id (version (member (codes "result") result no_members)))

-- the answer with this id that tells of an error by its code
abbrev pub failure : Data → Num → List ℕ → Data
failure id code message =
    object (member (codes "error") (object (member (codes "code") (number code)
    (member (codes "message") (string message) no_members)))
    (member (codes "id") id (version no_members)))

-- a notification
abbrev pub notification : List ℕ → Data → Data
notification method params =
    object (version (member (codes "method") (string method)
    (member (codes "params") params no_members)))

abbrev pub with_id : Option Data → List Data → List Data
with_id None ids = ids
with_id (Some id) ids = id ∷ ids

-- the ids of the answers among these messages: only an answer has an id
abbrev pub answered : List Data → List Data
answered [] = []
answered (message ∷ messages) = with_id (get (codes "id") message) (answered messages)
