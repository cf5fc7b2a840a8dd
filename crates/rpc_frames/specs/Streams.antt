-- Streams of frames, however they are cut into pieces.
use Rattle.std.specs.Prelude.{◌≡◌, ◌≢◌, ℕ, List, [], ◌∷◌, ◌++◌, ⊤}
use Rattle.std.specs.List.{flat_map}
use Rattle.rpc_frames.specs.Frames.{Frame, IsFrame, begin_of, bytes_of}
use Rattle.rpc_frames.specs.declared.begin.Begin.TheVariants.{Whole}

-- no whole frame comes first
abbrev pub LacksFrame : List ℕ → Type 0
LacksFrame bytes = (head body : ℕ) → begin_of bytes ≢ Whole head body

-- each is a frame
abbrev pub AreFrames : List Frame → Type 0
AreFrames [] = ⊤
AreFrames (f ∷ fs) = IsFrame f × AreFrames fs

-- a stream is these frames and then a rest
abbrev pub stream_of : List Frame → List ℕ → List ℕ
stream_of frames rest = flat_map bytes_of frames ++ rest

-- a stream is these frames and no others, and then less than a whole one
pub record Splits (stream : List ℕ) (frames : List Frame) (rest : List ℕ) : Type 0 where
  pub whole : stream ≡ stream_of frames rest
  pub each : AreFrames frames
  pub no_more : LacksFrame rest
