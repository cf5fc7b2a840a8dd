-- The steps of a list of trees. (Of this project.)
use Rattle.std.specs.Prelude.{ℕ, length}
use Rattle.tt_data.specs.Forest.{Forest}
use Rattle.tt_data.specs.Walk.{walk}

-- each leaf, each opening and each closing is one
abbrev pub steps : Forest → ℕ
steps f = length (walk f)
