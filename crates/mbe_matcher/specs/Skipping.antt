-- What is left to bind while a repetition is skipped.
use Rattle.std.specs.Prelude.{ℕ, suc, ◌+◌, ◌*◌, List, [], ◌∷◌}
use Rattle.std.specs.Borrow.{Bor}
use Rattle.mbe_rules.specs.Counts.{count_of}
use Rattle.mbe_rules.specs.Items.{variables}
use Rattle.mbe_rules.specs.Ops.{items_of}
use Rattle.mbe_rules.specs.declared.parser.Op.{Op}
use Rattle.mbe_matcher.specs.Bindings.{Map, bind_skipped}

-- the names in a list of ops are bound as skipped
abbrev pub skipped_in : List Op → Map → Map
skipped_in ops m = bind_skipped (variables (items_of ops)) m

-- the names in the lists around the present one are bound so, the innermost list first, which is the last
abbrev pub skipped_around : List (Bor (List Op)) → Map → Map
skipped_around [] m = m
skipped_around (a ∷ outer) m = skipped_in a.now (skipped_around outer m)

-- how many steps those lists take at most: two for each op, and one for leaving the list before
abbrev pub work_around : List (Bor (List Op)) → ℕ
work_around [] = 0
work_around (a ∷ outer) = suc (2 * count_of (items_of a.now)) + work_around outer
