-- Where a byte of a text was in an earlier text, which one replaced range made it of. (Of this
-- project.)
use Rattle.std.specs.Prelude.{ℕ, ◌-◌, List, drop, if◌then◌else◌, length, nat_eq, take, Option}
use Rattle.std.specs.Prelude.{Some, None}
use Rattle.std.specs.List.{ends_with, starts_with}

-- the byte of an earlier text that one of a newer text comes from: the same one, where all before
-- it is the same in both; else the one as far from the end, where all from it on is the same; else
-- none, in what was replaced
abbrev pub byte_before : (old new : List ℕ) → (at : ℕ) → Option ℕ
byte_before old new at =
    if starts_with nat_eq old (take at new) then Some at else
    if ends_with nat_eq old (drop at new) then Some (length old - length (drop at new)) else None
