-- What a handle of C's owns. R is the row of what is held.
use Rattle.std.specs.Prelude.{Option, Some, None}
use base.Fml.{Fml, ftrue, ffalse}
use denote.RattleType.{RattleType}
use denote.RawPtr.{Ptr, block_ptr, null_ptr}
use Rattle.bare_box.specs.BareBox.{bare_owns}

-- nothing if the pointer is null, else what it points to and the right to free its block
abbrev pub handle_owns : (R : RattleType) → Ptr → Option R.Denot → Fml
handle_owns R null_ptr None = ftrue
handle_owns R null_ptr (Some x) = ffalse
handle_owns R (block_ptr b o) None = ffalse
handle_owns R (block_ptr b o) (Some x) = bare_owns R (block_ptr b o) x
