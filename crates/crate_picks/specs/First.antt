-- Where numbers stand first in a list. (Of this project.)
use Rattle.std.specs.Prelude.{◌≡◌, ℕ, List, Option, nat_eq}
use Rattle.std.specs.BTreeMap.{get}
use Rattle.std.specs.List.{position_from}
use Rattle.std.specs.Ordering.{nat_cmp}
use Rattle.crate_picks.specs.declared.first_index.FirstIndex.{FirstIndex}

-- the index at which a number stands first
abbrev pub first_of : List ℕ → ℕ → Option ℕ
first_of numbers n = position_from (λ m. nat_eq m n) 0 numbers

-- it says where each number stands first among these
abbrev pub IsFirstIndex : List ℕ → FirstIndex → Type 0
IsFirstIndex numbers f = (n : ℕ) → get nat_cmp f.first n ≡ first_of numbers n
