-- One turn of a run: a frame that has come is answered, or more is read.
use Rattle.std.specs.Prelude.{◌≡◌, ◌⊎◌, ℕ, List, [], ◌++◌}
use Rattle.rpc_frames.specs.Frames.{Frame, IsFrame, bytes_of}
use Rattle.client_texts.specs.Texts.{Document}
use Rattle.lsp_server.specs.Serving.{Answers}
use Rattle.lsp_server.specs.Steps.{Serving}

-- the first frame is taken out of what has come, and answered
pub record TakesFrame {W : Type 0} (documents : W → List Document) (before after : List ℕ)
    (old new : Serving W) (goes : List ℕ → Type 0) : Type 0 where
  pub frame : Frame
  pub is : IsFrame frame
  pub cut : before ≡ bytes_of frame ++ after
  pub answers : Answers documents old frame.body new goes

abbrev pub Turns : {W : Type 0} → (W → List Document) → (before after : List ℕ)
    → (old new : Serving W) → (comes goes : List ℕ → Type 0) → Type 0
Turns documents before after old new comes goes =
    (TakesFrame documents before after old new goes × comes [])
    ⊎ ((piece : List ℕ) × (after ≡ before ++ piece) × comes piece × (new ≡ old) × goes [])
