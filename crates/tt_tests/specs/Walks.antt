-- What walks over trees find.
use Rattle.std.specs.Prelude.{ℕ, ◌+◌}
use Rattle.tt_data.specs.Forest.{Forest, empty, leaf, group}

-- how many leaves the trees have, in groups too
abbrev pub leaf_count : Forest → ℕ
leaf_count empty = 0
leaf_count (leaf l rest) = 1 + leaf_count rest
leaf_count (group d inner rest) = leaf_count inner + leaf_count rest
