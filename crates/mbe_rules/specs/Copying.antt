-- What a copy of nested lists comes to, from what is copied so far and what is left.
use Rattle.std.specs.Prelude.{ℕ, suc, ◌+◌, ◌*◌, ◌<◌, List, [], ◌∷◌}
use Rattle.mbe_rules.specs.Counts.{count_of}
use Rattle.mbe_rules.specs.Items.{Items, done}
use Rattle.mbe_rules.specs.Lists.{enclosed}
use Rattle.mbe_rules.specs.Ops.{put_op, items_of}
use Rattle.mbe_rules.specs.Reading.{joined_items}
use Rattle.mbe_rules.specs.declared.clone.Around.{Around}
use Rattle.mbe_rules.specs.declared.clone.Begun.{Begun}
use Rattle.mbe_rules.specs.declared.clone.Begun.TheVariants.{Whole, List as listed}
use Rattle.mbe_rules.specs.declared.clone.Copying.{Copying}
use Rattle.mbe_rules.specs.declared.clone.Next.{Next}
use Rattle.mbe_rules.specs.declared.clone.Next.TheVariants.{More, Last}

-- the op that a copy is of, as a list of one
abbrev pub begun : Begun → Items
begun (Whole o) = put_op o done
begun (listed e inner) = enclosed e (items_of inner.now)

-- the ops of a list around one inside it, by the ops of that one
abbrev pub left_with : Around → Items → Items
left_with a inner = joined_items (items_of a.copies.items) (joined_items (enclosed a.enclosing inner) (items_of a.rest.now))

-- the ops of the outermost of these lists, by those of the list inside the innermost
abbrev pub around_with : List Around → Items → Items
around_with [] is = is
around_with (a ∷ outer) is = left_with a (around_with outer is)

-- the ops of the outermost list
abbrev pub whole : Copying → Items
whole n = around_with n.around.items (joined_items (items_of n.copies.items) (items_of n.rest.now))

-- the ops of the outermost list, after a step
abbrev pub next_whole : Next → Items
next_whole (More n) = whole n
next_whole (Last v) = items_of v.items

-- how much is left to copy around a list: two for each op, and one for leaving each list
abbrev pub weight_around : List Around → ℕ
weight_around [] = 0
weight_around (a ∷ outer) = suc (2 * count_of (items_of a.rest.now)) + weight_around outer

-- how much is left to copy
abbrev pub weight : Copying → ℕ
weight n = 2 * count_of (items_of n.rest.now) + weight_around n.around.items

-- after a step less than this is left to copy
abbrev pub IsLess : ℕ → Next → Type 0
IsLess k (More n) = weight n < k
IsLess k (Last v) = Unit {0}
