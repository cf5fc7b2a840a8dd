-- How many ops a matcher or a transcriber has: by this number, walks over them end.
use Rattle.std.specs.Prelude.{ℕ, suc, ◌+◌}
use Rattle.mbe_rules.specs.Items.{Items, done, item, group_of, repetition}

-- how many ops there are, those inside others too
abbrev pub count_of : Items → ℕ
count_of done = 0
count_of (item i rest) = suc (count_of rest)
count_of (group_of d inner rest) = suc (count_of inner + count_of rest)
count_of (repetition body sep op rest) = suc (count_of body + count_of rest)
