-- A run of the server, from a stream to a stream.
use Rattle.std.specs.Prelude.{◌≡◌, ◌≤◌, ℕ, Bool, true, false, List, [], ◌∷◌, ◌++◌, map, Option, Some, ⊤}
use Rattle.std.specs.List.{flat_map}
use Rattle.serde_json.specs.Data.{Data, depth}
use Rattle.serde_json.specs.Read.{max_depth, read}
use Rattle.serde_json.specs.Written.{compact_text, has_float}
use Rattle.rpc_messages.specs.Messages.{answered}
use Rattle.rpc_frames.specs.Frames.{Frame, IsFrame, bytes_of, framed}
use Rattle.rpc_frames.specs.Streams.{AreFrames, stream_of}
use Rattle.client_texts.specs.Texts.{Document}
use Rattle.lsp_server.specs.Steps.{Reads, Serving, Steps, asked_of}
use Rattle.lsp_server.specs.declared.phase.Phase.{Phase}
use Rattle.lsp_server.specs.declared.phase.Phase.TheVariants.{Shut, Ended}

-- bodies come one after the other, and these messages go for each
abbrev pub Runs : {W : Type 0} → (W → List Document) → (old : Serving W) → List (List ℕ)
    → List (List Data) → (new : Serving W) → Type 0
Runs documents old [] [] new = new ≡ old
Runs {W} documents old (body ∷ bodies) (outs ∷ more) new =
    (middle : Serving W) × Steps documents old body outs middle
    × Runs documents middle bodies more new
Runs documents old _ _ new = ⊥

-- a text is a message's: its compact JSON, which reads as the message
pub record Prints (message : Data) (text : List ℕ) : Type 0 where
  pub compact : has_float message ≡ false → text ≡ compact_text message
  pub reads : depth message ≤ max_depth → read text ≡ Some message

-- each message's, in order
abbrev pub PrintAll : List Data → List (List ℕ) → Type 0
PrintAll [] [] = ⊤
PrintAll (message ∷ messages) (text ∷ texts) = Prints message text × PrintAll messages texts
PrintAll _ _ = ⊥

-- a body comes, and the messages for it go, each in its frame
pub record Answers {W : Type 0} (documents : W → List Document) (old : Serving W) (body : List ℕ)
    (new : Serving W) (goes : List ℕ → Type 0) : Type 0 where
  pub outs : List Data
  pub steps : Steps documents old body outs new
  pub texts : List (List ℕ)
  pub prints : PrintAll outs texts
  pub went : goes (flat_map framed texts)

-- whether the client asked to shut down, and before it told the server to exit
abbrev pub has_asked : Phase → Bool
has_asked Shut = true
has_asked (Ended asked) = asked
has_asked _ = false

-- all messages of a run
abbrev pub all_of : List (List Data) → List Data
all_of outs = flat_map (λ messages. messages) outs

-- these are the ids of the answers that bodies ask for, in order
abbrev pub AreAsked : (bodies : List (List ℕ)) → (ids : List Data) → Type 0
AreAsked [] ids = ids ≡ []
AreAsked (body ∷ bodies) ids = (message : Option Data) × (rest : List Data) × Reads body message
    × (ids ≡ asked_of message ++ rest) × AreAsked bodies rest

-- a server came from one state to another: from frames that came on its input, and a rest that is
-- in none of them, with the messages of the run on its output, each in its frame;
-- and each request was answered once, in order and with its id
pub record Served {W : Type 0} (documents : W → List Document) (old new : Serving W)
    (comes goes : List ℕ → Type 0) : Type 0 where
  pub frames : List Frame
  pub are : AreFrames frames
  pub rest : List ℕ
  pub came : comes (stream_of frames rest)
  pub outs : List (List Data)
  pub runs : Runs documents old (map (λ f. f.body) frames) outs new
  pub once : AreAsked (map (λ f. f.body) frames) (answered (all_of outs))
  pub texts : List (List ℕ)
  pub prints : PrintAll (all_of outs) texts
  pub went : goes (flat_map framed texts)

-- ---- the first message

-- these bytes begin with a frame that has this body
pub record BeginsWithBody (bytes body : List ℕ) : Type 0 where
  pub frame : Frame
  pub is : IsFrame frame
  pub has : frame.body ≡ body
  pub rest : List ℕ
  pub cut : bytes ≡ bytes_of frame ++ rest

-- these bytes begin with a frame, whose body is this message
pub record BeginsWith (bytes : List ℕ) (message : Data) : Type 0 where
  pub body : List ℕ
  pub begins : BeginsWithBody bytes body
  pub reads : Reads body (Some message)
