-- The parts of a line that tells of a step. (Of this project.)
use Rattle.std.specs.Prelude.{ℕ, ◌+◌, ◌-◌, ◌*◌, List, ◌∷◌, [], ◌++◌, codes, decimal, length, max}
use Rattle.std.specs.Prelude.{min, replicate}

-- two blanks for each level, of sixteen at most
abbrev pub indent : ℕ → List ℕ
indent level = replicate (2 * min level 16) 32

-- the number of a level, from 1, in three columns, and blanks
abbrev pub head : ℕ → List ℕ
head level =
    replicate (3 - length (decimal (level + 1))) 32
    ++ (decimal (level + 1) ++ (codes "  " ++ indent level))

-- a line: what is left, and what is beside it from byte 50 on, or after two blanks
abbrev pub beside : (left right : List ℕ) → List ℕ
beside left right =
    left ++ (replicate (max (50 - length left) 2) 32 ++ (right ++ (10 ∷ [])))
