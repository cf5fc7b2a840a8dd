-- What the right to give a block back is.
use Rattle.std.specs.Prelude.{ℕ}
use Rattle.std.specs.Vec.Ownership.{owns_if, has_block}
use base.Fml.{Fml}
use mir.Syntax.{Ty, ty_array}
use mir.Raw.{raw}
use denote.RattleType.{RattleType}
use denote.Memory.{lone}
use denote.RawPtr.{Ptr}

-- the allocator's token for a block of n places of the row R, or nothing where there is no place
abbrev pub deed_owns : (Ty → Ptr → Fml) → RattleType → Ptr → ℕ → Fml
deed_owns token R p n = owns_if (has_block n) (token (raw (ty_array (lone R.mir) n)) p)
