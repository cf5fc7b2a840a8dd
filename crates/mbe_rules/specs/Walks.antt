-- What is left of a walk that finds whether a matcher can match nothing, or iterate without end.
use Rattle.std.specs.Prelude.{ℕ, suc, ◌+◌, ◌*◌, Bool, true, false, ◌&&◌, ◌||◌, not, List, [], ◌∷◌}
use Rattle.mbe_rules.specs.Counts.{count_of}
use Rattle.mbe_rules.specs.Items.{Items, item, may_skip, can_match_nothing, has_empty_round}
use Rattle.mbe_rules.specs.Ops.{items_of}
use Rattle.mbe_rules.specs.declared.validation.Inside.{Inside}
use Rattle.mbe_rules.specs.declared.validation.Inside.TheVariants.{Group, Repetition}
use Rattle.mbe_rules.specs.declared.validation.Outer.{Outer}
use Rattle.mbe_rules.specs.declared.validation.Walk.{Walk}

-- whether an op, as a list of one, has no ops inside
abbrev pub is_plain : Items → Bool
is_plain (item i rest) = true
is_plain _ = false

-- whether an op can match nothing, by whether the list inside it can
abbrev pub op_nothing : Inside → Bool → Bool
op_nothing Group b = false
op_nothing (Repetition apart kind) b = may_skip kind || b

-- whether an op can iterate without end, by whether the list inside it can match nothing
abbrev pub op_endless : Inside → Bool → Bool
op_endless Group b = false
op_endless (Repetition apart kind) b = not apart && b

-- whether a list around one inside it can match nothing, by whether that one can
abbrev pub left_nothing : Outer → Bool → Bool
left_nothing a b = a.nothing && (op_nothing a.inside b && can_match_nothing (items_of a.rest.now))

-- whether the outermost of these lists can match nothing, by whether the list inside the innermost can
abbrev pub around_nothing : List Outer → Bool → Bool
around_nothing [] b = b
around_nothing (a ∷ outer) b = left_nothing a (around_nothing outer b)

-- whether the outermost of these lists can iterate without end from here on, by what the list inside the innermost can
abbrev pub around_endless : List Outer → Bool → Bool → Bool
around_endless [] b e = e
around_endless (a ∷ outer) b e = op_endless a.inside (around_nothing outer b) || (around_endless outer b e || has_empty_round (items_of a.rest.now))

-- whether the innermost list can match nothing
abbrev pub here_nothing : Walk → Bool
here_nothing w = w.nothing && can_match_nothing (items_of w.rest.now)

-- whether the outermost list can match nothing
abbrev pub whole_nothing : Walk → Bool
whole_nothing w = around_nothing w.around.items (here_nothing w)

-- whether it can iterate without end
abbrev pub whole_endless : Walk → Bool
whole_endless w = w.endless || around_endless w.around.items (here_nothing w) (has_empty_round (items_of w.rest.now))

-- how many steps the ops of a list around the present one take at most: two for each op, and one for leaving the list before
abbrev pub work_outer : Outer → ℕ
work_outer a = suc (2 * count_of (items_of a.rest.now))

-- how many steps those of all lists around it take
abbrev pub work_around : List Outer → ℕ
work_around [] = 0
work_around (a ∷ outer) = work_outer a + work_around outer

-- how many steps are left at most
abbrev pub work : Walk → ℕ
work w = 2 * count_of (items_of w.rest.now) + work_around w.around.items
