-- A reader or writer that remembers whether it failed.
use Rattle.std.specs.Prelude.{ℕ, Bool, true, false, List, length, Result, Ok, Err, nat_eq, nat_lt}
use Rattle.std.specs.Prelude.{◌&&◌}

pub record Watch (T : Type 0) : Type 0 where
  -- the reader or writer inside
  pub inner : T
  -- whether one of its calls has failed
  pub failed : Bool
  -- whether its last call was a flush that succeeded
  pub flushed : Bool

-- an error of any kind
abbrev pub is_error : {X E : Type 0} → Result X E → Bool
is_error (Ok _) = false
is_error (Err _) = true

-- an error, or 0 bytes taken of a write that isn't empty
abbrev pub is_bad_write : {E : Type 0} → List ℕ → Result ℕ E → Bool
is_bad_write bytes (Err _) = true
is_bad_write bytes (Ok n) = nat_eq n 0 && nat_lt 0 (length bytes)
