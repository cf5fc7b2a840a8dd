-- What an owner of a counted block owns, and what a `&` to one holds. R is the value's row, c the block, x the value.
use Rattle.std.specs.Prelude.{ℕ, ◌+◌, ◌-◌, ◌^◌, Bool, true, false, []}
use base.Fraction.{full_share}
use base.Fml.{Lft, Share, Fml, ftrue, ffalse, fsep, fex, flt, feq, fat, fleft}
use mir.Syntax.{Ty, Tys, w64, ty_int, ty_struct, tcons, tnil}
use mir.Val.{vint}
use mir.Raw.{raw}
use prog.Memory.{align, up}
use denote.RattleType.{RattleType}
use denote.Memory.{lone}
use denote.RawPtr.{Ptr, block_ptr, null_ptr, block_of, count_of, lies_at, ◌+ₚ◌}
use denote.Struct.Lending.{lent_at}
use denote.RcWeak.{rc_cell_owns, rc_lends}
use denote.Sharing.{one, beside, some, held}
use Rattle.bare_box.specs.BareBox.{may_free}

-- the count at which a block is never freed
abbrev pub most : ℕ
most = 2 ^ 64 - 1

-- of a share of the count's memory, which lies first in the block: the count is n
abbrev pub count_in : Share → Ptr → ℕ → Fml
count_in q (block_ptr b o) n = fat q (ty_int w64) b (o + 0) (vint w64 n)
count_in q null_ptr n = ffalse

-- the same, of all of it
abbrev pub count_at : Ptr → ℕ → Fml
count_at = count_in full_share

-- what is left of a block of the type τ with these fields, once they are out
abbrev pub left_at : Ty → Tys → Ptr → Fml
left_at τ τs (block_ptr b o) = fleft full_share τ τs b o
left_at τ τs null_ptr = ffalse

module _ (R : RattleType) (c : Ptr) (x : R.Denot) where
  -- the types of the block's fields, as the machine sees them
  abbrev pub field_types : Tys
  field_types = tcons (ty_int w64) (tcons (raw (lone R.mir)) tnil)

  -- the type of the block, as the machine sees it
  abbrev pub block_type : Ty
  block_type = ty_struct [] field_types

  -- where in the block the value lies
  abbrev pub value_offset : ℕ
  value_offset = up (align (lone R.mir)) 8

  -- all of the block but the count
  abbrev pub rest : Fml
  rest = fsep (lies_at R full_share (c +ₚ value_offset) x) (fsep (left_at block_type field_types c) (may_free block_type c))

  -- what a `&` to the value holds
  abbrev pub seen : Lft → Fml
  seen = lent_at R (c +ₚ value_offset) x

  -- what a `&` to a count at its maximum holds, and to the value
  abbrev pub full : Lft → Fml
  full = beside (one (λ q. count_in q c most)) seen

  -- the count is at its maximum, and both are lent for good: no one frees the block
  abbrev pub stays : Fml
  stays = full []

  -- the count's memory for n owners: it says n, or it stays at its maximum
  abbrev pub says : ℕ → Bool → Fml
  says n true = fsep (count_at c n) (flt n most)
  says n false = stays

  -- the same, whichever of the two it is; with no owner left it is no longer here
  abbrev pub counting : ℕ → Bool → Fml
  counting n true = fex Bool (says n)
  counting n false = feq ℕ n 0

  -- the same, whether or not an owner is left
  abbrev pub counts : ℕ → Fml
  counts n = fex Bool (counting n)

  -- what an owner owns: one part of the value's lifetime, which is counted; or, where the count stays, no part
  abbrev pub owns_by : Bool → Fml
  owns_by true = rc_cell_owns 64 (block_of c, count_of c) counts (λ _. ftrue) rest ftrue ftrue seen
  owns_by false = stays

  abbrev pub owner_owns : Fml
  owner_owns = fex Bool owns_by

  -- what a `&` to an owner holds
  abbrev pub lends_by : Bool → Lft → Fml
  lends_by true = rc_lends 64 (block_of c, count_of c) counts (λ _. ftrue) rest ftrue ftrue seen
  lends_by false = held [] full

  abbrev pub owner_lends : Lft → Fml
  owner_lends = some Bool lends_by
