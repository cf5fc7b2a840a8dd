-- The numbers of tokens.
use Rattle.std.specs.Prelude.{◌≡◌, ℕ, ◌-◌, ◌<◌, ◌≤◌, List, length, slice_index}

-- the number, from 1, of the last of these tokens that begins at a byte or before it; 0 before all
-- of them
pub record IsNumberAt (starts : List ℕ) (at number : ℕ) : Type 0 where
  pub within : number ≤ length starts
  pub begun : 0 < number → slice_index starts (number - 1) ≤ at
  pub next : number < length starts → at < slice_index starts number

-- one for each offset
pub record AreNumbers (starts offsets numbers : List ℕ) : Type 0 where
  pub as_many : length numbers ≡ length offsets
  pub each : (k : ℕ) → k < length offsets
      → IsNumberAt starts (slice_index offsets k) (slice_index numbers k)
