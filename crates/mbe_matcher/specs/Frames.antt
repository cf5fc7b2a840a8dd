-- The frames of a thread
use Rattle.std.specs.Prelude.{List, [], ◌∷◌, Option, Some, None}
use Rattle.std.specs.Borrow.{Bor}
use Rattle.mbe_matcher.specs.declared.thread.Frame.{Frame}

-- the innermost first
abbrev pub frames_in : Option (Bor (Frame × List Frame)) → List Frame
frames_in None = []
frames_in (Some r) = r.now.0 ∷ r.now.1
