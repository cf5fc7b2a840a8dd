-- What a request gives. (For `take_message`.)
use Rattle.std.proofs.Common.{◌≡◌, ◌∙◌, ℕ, List, [], ◌∷◌, codes, length, map, refl, sym, ap, Option, Some, None}
use Rattle.std.specs.Prelude.{IsSome, option_and_then}
use Rattle.serde_json.specs.Data.{Data}
use Rattle.serde_json.specs.Find.{get}
use Rattle.rpc_messages.specs.Messages.{answered, asked, method_of}
use Rattle.client_texts.specs.Texts.{Document}
use Rattle.lsp_server.specs.Protocol.{known_method, method_named, phase_asked, refused, refused_by}
use Rattle.lsp_server.specs.Steps.{Serving, Takes, error, phase_after, phase_by, refusal_of, refused_as, note_in}
use Rattle.lsp_server.specs.declared.phase.Phase.{Phase}
use Rattle.lsp_server.specs.declared.phase.ErrorCode.{ErrorCode}

-- a message with a method and an id asks for one answer
asks_one : (message method id : Data) → get (codes "method") message ≡ Some method
    → get (codes "id") message ≡ Some id → asked message ≡ id ∷ []
asks_one message method id has is = rw (has, is) refl

phase_same : (phase : Phase) (message method id : Data) → get (codes "method") message ≡ Some method
    → get (codes "id") message ≡ Some id
    → phase_after phase (Some message) ≡ phase_asked phase (known_method message)
phase_same phase message method id has is =
    ap (λ (m : Option Data). phase_by phase message m (get (codes "id") message)) has
    ∙ ap (λ (i : Option Data). phase_by phase message (Some method) i) is

refusal_same : (phase : Phase) (message method id : Data) → get (codes "method") message
    ≡ Some method
    → get (codes "id") message ≡ Some id
    → refusal_of phase (Some message) ≡ refused phase message
refusal_same phase message method id has is =
    ap (λ (m : Option Data). refused_as phase message m (get (codes "id") message)) has
    ∙ ap (λ (i : Option Data). refused_as phase message (Some method) i) is

no_note : (phase : Phase) (message method id : Data) → get (codes "method") message ≡ Some method
    → get (codes "id") message ≡ Some id → note_in phase (Some message) ≡ None
no_note phase message method id has is = rw (has, is) refl

takes_by : {W : Type 0} (documents : W → List Document) (old new : Serving W)
    (message id answer : Data) (method : Option Data) → get (codes "method") message ≡ method
    → IsSome method → get (codes "id") message ≡ Some id
    → get (codes "id") answer ≡ Some id
    → ((code : ErrorCode) → refused old.phase message ≡ Some code → answer ≡ error code id)
    → new.phase ≡ phase_asked old.phase (known_method message)
    → documents new.workspace ≡ documents old.workspace
    → Takes documents old (Some message) (answer ∷ []) new
takes_by documents old new message id answer None has some is answers refuses phase texts =
    let none : ⊥ = cc in absurd none
takes_by documents old new message id answer (Some method) has some is answers refuses phase texts =
    let one : asked message ≡ id ∷ [] = asks_one message method id has is in
    let told : answered (answer ∷ []) ≡ id ∷ [] = rw answers refl in
    record {
      each_answered = told ∙ sym one;
      phase = phase ∙ sym (phase_same old.phase message method id has is);
      texts = rw (no_note old.phase message method id has is)
          (texts, ap (λ (ids : List Data). length ids) (sym one));
      errors = λ code given.
          ap (λ (a : Data). a ∷ []) (refuses code (sym
          (refusal_same old.phase message method id has is) ∙ given))
          ∙ ap (λ (ids : List Data). map (error code) ids) (sym one);
    }

-- a request, whose answer these facts are of
pub takes_request : {W : Type 0} (documents : W → List Document) (old new : Serving W)
    (message id answer : Data) (name : Option (List ℕ)) (outs : List Data)
    → get (codes "id") message ≡ Some id → IsSome (get (codes "method") message)
    → name ≡ method_of message → get (codes "id") answer ≡ Some id
    → ((code : ErrorCode) → refused_by old.phase name (option_and_then method_named name)
    ≡ Some code
    → answer ≡ error code id)
    → new.phase ≡ phase_asked old.phase (option_and_then method_named name)
    → documents new.workspace ≡ documents old.workspace
    → outs ≡ answer ∷ []
    → Takes documents old (Some message) outs new
takes_request documents old new message id answer name outs is some named answers refuses phase
    texts all =
    rw all (takes_by documents old new message id answer (get
    (codes "method") message) refl some is answers
    (λ code given. refuses code (ap (λ (n : Option (List ℕ)). refused_by old.phase n
    (option_and_then method_named n)) named ∙ given))
    (phase ∙ ap (λ (n : Option (List ℕ)). phase_asked old.phase
    (option_and_then method_named n)) named)
    texts)
