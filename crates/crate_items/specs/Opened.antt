-- A text in which calls are opened: of each what is kept stays, and blanks stand for the rest.
use Rattle.std.specs.Prelude.{◌≡◌, ℕ, Bool, not, ◌&&◌, ◌==◌, nat_le, nat_lt, List, length}
use Rattle.std.specs.Prelude.{option_map, if◌then◌else◌}
use Rattle.std.specs.List.{list_any, slice_get}
use Rattle.tt_data.specs.declared.span.TextRange.{TextRange}

-- an offset lies in a range
abbrev pub is_in : ℕ → TextRange → Bool
is_in i r = nat_le r.start i && nat_lt i r.«end»

-- it lies in one of these
abbrev pub is_in_any : List TextRange → ℕ → Bool
is_in_any ranges i = list_any (is_in i) ranges

-- the byte at an offset: a space in a call where it is not kept, but line ends stay
abbrev pub opened_byte : List TextRange → List TextRange → ℕ → ℕ → ℕ
opened_byte calls kept i b =
    if is_in_any calls i && (not (is_in_any kept i) && not (b == 10)) then 32 else b

-- a text is another one in which these calls are opened, of which this is kept
pub record IsOpened (calls kept : List TextRange) (old new : List ℕ) : Type 0 where
  pub size : length new ≡ length old
  pub bytes : (i : ℕ) → slice_get new i ≡ option_map (opened_byte calls kept i) (slice_get old i)
