-- How many iterations a repetition of a transcriber may have
use Rattle.std.specs.Prelude.{ℕ}

-- the most iterations that a repetition of a transcriber may have
abbrev pub most_rounds : ℕ
most_rounds = 65535
