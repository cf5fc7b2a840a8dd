-- When the parts of a block belong together.
use Rattle.std.specs.Prelude.{◌≡◌}
use Rattle.core.specs.declared.slots.Slots.{Slots}
use Rattle.std.specs.Mem.Slots.{slots_len, slots_ptr}
use Rattle.byte_buffer.specs.declared.block.Block.{Block}
use Rattle.byte_buffer.specs.declared.block.Deed.{Deed}

module _ {X Y : Type 0} (alloc : Y) where
  -- the deed is the right to give the memory of these places back to this allocator
  pub record IsDeedOf (places : Slots X) (deed : Deed X Y) : Type 0 where
    pub at : deed.at ≡ slots_ptr places
    pub all : deed.len ≡ slots_len places
    pub by : deed.alloc ≡ alloc

  -- the three parts are those of one block
  pub record IsOneOf (b : Block X Y) : Type 0 where
    pub starts : b.start.at ≡ slots_ptr b.places
    pub frees : IsDeedOf b.places b.deed
