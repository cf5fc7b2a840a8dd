-- What is left to compare of two lists of ops.
use Rattle.std.specs.Prelude.{◌≡◌, ℕ, suc, ◌+◌, ◌*◌, Bool, true, false, ◌&&◌, List, [], ◌∷◌}
use Rattle.mbe_rules.specs.Counts.{count_of}
use Rattle.mbe_rules.specs.Equality.{heads_of, same_heads}
use Rattle.mbe_rules.specs.Ops.{items_of}
use Rattle.mbe_rules.specs.declared.equality.Pair.{Pair}
use Rattle.mbe_rules.specs.declared.equality.Step.{Step}
use Rattle.mbe_rules.specs.declared.equality.Step.TheVariants.{Differ, Ended, More}

-- the two lists are equal
abbrev pub pair_same : Pair → Bool
pair_same p = same_heads (heads_of p.first.now) (heads_of p.second.now)

-- all of these are
abbrev pub around_same : List Pair → Bool
around_same [] = true
around_same (p ∷ ps) = pair_same p && around_same ps

-- the two lists are equal, by what their fronts show
abbrev pub step_same : Step → Bool
step_same Differ = false
step_same Ended = true
step_same (More inside rest) = pair_same inside && pair_same rest

-- how many ops the first list has, those inside others too
abbrev pub pair_count : Pair → ℕ
pair_count p = count_of (items_of p.first.now)

-- fewer ops than these are left behind the first of them
abbrev pub IsFewer : ℕ → Step → Type 0
IsFewer n Differ = Unit {0}
IsFewer n Ended = Unit {0}
IsFewer n (More inside rest) = n ≡ suc (pair_count inside + pair_count rest)

-- how many ops these lists have
abbrev pub count_around : List Pair → ℕ
count_around [] = 0
count_around (p ∷ ps) = pair_count p + count_around ps

-- how much is left to do in these lists: two for each op, and one for leaving the list before
abbrev pub weight_around : List Pair → ℕ
weight_around [] = 0
weight_around (p ∷ ps) = suc (2 * pair_count p) + weight_around ps
