-- Positions in a text by line and by column in characters, both from 1. (Of this project.) A text
-- is its bytes in UTF-8.
use Rattle.std.specs.Prelude.{ℕ, ◌+◌, List, Bool, ◌&&◌, ◌==◌, not, if◌then◌else◌, fold, nat_lt}
use Rattle.std.specs.Prelude.{take}
use Rattle.step_report.specs.declared.positions.Position.{Position}

-- a byte in a character that is not its first. (RFC 3629)
abbrev pub is_continuation : ℕ → Bool
is_continuation b = not (nat_lt b 128) && nat_lt b 192

-- where a text begins
abbrev pub first : Position
first = record { line = 1; column = 1 }

-- the position behind a byte, by that of the byte: a line feed ends the line
abbrev pub position_behind : Position → ℕ → Position
position_behind p b =
    if b == 10 then record { line = p.line + 1; column = 1 }
    else if is_continuation b then p else record { line = p.line; column = p.column + 1 }

-- the position of a byte. One past the end is taken as the end.
abbrev pub position_of : List ℕ → ℕ → Position
position_of text at = fold position_behind first (take at text)
