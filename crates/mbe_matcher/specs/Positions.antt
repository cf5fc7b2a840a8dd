-- Where a state is in a matcher: how many ops are left in each list that it is in.
use Rattle.std.specs.Prelude.{◌≡◌, ◌⊎◌, ℕ, suc, List, [], ◌∷◌}
use Rattle.tt_data.specs.declared.delimiter.Delimiter.{Delimiter}
use Rattle.mbe_rules.specs.Items.{Items, done, item, group_of, repetition}
use Rattle.mbe_matcher.specs.Readings.{State, at, Frame, in_group, in_round, parted}

-- how many ops a list has, without those inside its groups and repetitions
abbrev pub count : Items → ℕ
count done = 0
count (item i rest) = suc (count rest)
count (group_of d inner rest) = suc (count rest)
count (repetition body sep op rest) = suc (count rest)

-- some ops are the last ones of a list
abbrev pub IsEndOf : Items → Items → Type 0
IsEndOf xs done = xs ≡ done
IsEndOf xs (item i rest) = (xs ≡ item i rest) ⊎ IsEndOf xs rest
IsEndOf xs (group_of d inner rest) = (xs ≡ group_of d inner rest) ⊎ IsEndOf xs rest
IsEndOf xs (repetition body sep op rest) = (xs ≡ repetition body sep op rest) ⊎ IsEndOf xs rest

-- a list of the matcher, inside these groups and repetitions of it
abbrev pub IsWithin : Items → Items → List Frame → Type 0
IsWithin pattern list [] = list ≡ pattern
IsWithin pattern list (in_group after ∷ fs) =
    (d : Delimiter) × (outer : Items) × IsEndOf (group_of d list after) outer × IsWithin pattern outer fs
IsWithin pattern list (in_round body sep op after ∷ fs) =
    (list ≡ body) × ((outer : Items) × IsEndOf (repetition body sep op after) outer × IsWithin pattern outer fs)
IsWithin pattern list (parted body sep op after ∷ fs) =
    (list ≡ body) × ((outer : Items) × IsEndOf (repetition body sep op after) outer × IsWithin pattern outer fs)

-- a state that is in the matcher
abbrev pub IsIn : Items → State → Type 0
IsIn pattern (at items fs p) = (list : Items) × IsEndOf items list × IsWithin pattern list fs

-- a frame's sort, and the number that identifies it
abbrev pub mark_of : Frame → ℕ × ℕ
mark_of (in_group after) = (0, count after)
mark_of (in_round body sep op after) = (1, count after)
mark_of (parted body sep op after) = (2, count after)
