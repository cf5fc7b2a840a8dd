-- What a box owns that is held by its bare pointer. R is the value's row.
use base.Fml.{Fml, fex}
use mir.Syntax.{Ty}
use denote.RattleType.{RattleType}
use denote.RawPtr.{Ptr}
use Rattle.std.specs.Box.Ownership.{box_owns}
use Rattle.std.specs.declared.alloc.Global.{Global}
use Rattle.std.specs.contracts.impls.GlobalAllocator.TheImpl.{ghosts}

-- the right to free a block of the type τ, by whatever handle of the heap
abbrev pub may_free : Ty → Ptr → Fml
may_free τ p = fex Global (λ heap. ghosts.dealloc_token heap τ p)

-- the value at p, and the right to free its block
abbrev pub bare_owns : (R : RattleType) → Ptr → R.Denot → Fml
bare_owns = box_owns may_free
