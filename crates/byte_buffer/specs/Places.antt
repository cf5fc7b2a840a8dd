-- What the places of a block hold.
use Rattle.std.specs.Prelude.{◌≡◌, ◌+◌, ◌*◌, ◌^◌, ◌<◌, ◌≤◌, ◌++◌, ℕ, Bool, false, if◌then◌else◌, List, take, drop}
use Rattle.core.specs.declared.slots.Slots.{Slots}
use Rattle.std.specs.Mem.Slots.{SamePlaces, slots_filled, slots_items, slots_len}
use Rattle.std.specs.Mem.Slots.Ownership.{Filled, SameOutside}

module _ {X : Type 0} where
  -- the first places, as many as these, hold values
  pub record HoldsFirst (len : ℕ) (places : Slots X) : Type 0 where
    pub within : len ≤ slots_len places
    pub filled : Filled (slots_filled places) 0 len

  -- the first values are the same
  abbrev pub KeepsFirst : ℕ → Slots X → Slots X → Type 0
  KeepsFirst len old new = take len (slots_items new) ≡ take len (slots_items old)

  -- there are at least twice as many places, where a number has room for that
  abbrev pub IsTwice : Slots X → Slots X → Type 0
  IsTwice old new = slots_len old < 2 ^ 62 → 2 * slots_len old ≤ slots_len new

  -- there are as many places as are wanted, if that is done, and else as many as before
  abbrev pub IsResized : Bool → ℕ → Slots X → Slots X → Type 0
  IsResized is_done wanted old new = slots_len new ≡ (if is_done then wanted else slots_len old)

  -- the n places from `at` on hold xs, and the others what they held
  pub record IsWritten (at n : ℕ) (xs : List X) (old new : Slots X) : Type 0 where
    pub items : slots_items new ≡ take at (slots_items old) ++ (xs ++ drop (at + n) (slots_items old))
    pub inside : Filled (slots_filled new) at (at + n)
    pub outside : SameOutside false (slots_filled old) (slots_filled new) at (at + n)
    pub places : SamePlaces old new
