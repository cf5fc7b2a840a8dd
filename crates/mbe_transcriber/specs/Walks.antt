-- What is left of a traversal of the ops without ops inside
use Rattle.std.specs.Prelude.{ℕ, ◌+◌, List, [], ◌++◌, reverse, sum_by, Option, Some, None}
use Rattle.std.specs.Borrow.{Bor}
use Rattle.std.specs.List.{flat_map}
use Rattle.mbe_rules.specs.Items.{done}
use Rattle.mbe_rules.specs.Ops.{items_of, put_op}
use Rattle.mbe_rules.specs.declared.parser.Op.{Op}
use Rattle.mbe_transcriber.specs.Filling.{names}
use Rattle.mbe_transcriber.specs.Tasks.{work_of}
use Rattle.mbe_transcriber.specs.declared.items.PlainItems.{PlainItems}

-- the metavariables in a list of ops
abbrev pub names_in : Bor (List Op) → List (List ℕ)
names_in ops = names (items_of ops.now)

-- the metavariables in the lists around the present one, the innermost first
abbrev pub names_around : PlainItems → List (List ℕ)
names_around w = flat_map names_in (reverse w.around.items)

-- the metavariables in all that is left
abbrev pub names_left : PlainItems → List (List ℕ)
names_left w = names_in w.ops ++ names_around w

-- the metavariables of an op, if there is one
abbrev pub names_first : Option (Bor Op) → List (List ℕ)
names_first None = []
names_first (Some op) = names (put_op op.now done)

-- how many steps a list around the present one takes at most
abbrev pub work_in : Bor (List Op) → ℕ
work_in ops = 1 + work_of (items_of ops.now)

abbrev pub work_around : PlainItems → ℕ
work_around w = sum_by work_in w.around.items

-- how many steps all that is left takes at most
abbrev pub work_left : PlainItems → ℕ
work_left w = work_of (items_of w.ops.now) + work_around w
