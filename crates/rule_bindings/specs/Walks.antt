-- What is left of a walk over the repetitions of a transcriber.
use Rattle.std.specs.Prelude.{ℕ, ◌+◌, ◌*◌, List, [], ◌∷◌, ◌++◌, Option, None, option_and_then}
use Rattle.std.specs.Prelude.{sum_by}
use Rattle.std.specs.Option.{option_or}
use Rattle.mbe_rules.specs.Items.{Items}
use Rattle.mbe_rules.specs.Ops.{items_of}
use Rattle.mbe_rules.specs.declared.parser.RepeatKind.{RepeatKind}
use Rattle.mbe_matcher.specs.Bindings.{Map}
use Rattle.mbe_transcriber.specs.Filling.{names}
use Rattle.mbe_transcriber.specs.Tasks.{around, work_of}
use Rattle.rule_bindings.specs.Notes.{Unequal, first_counted, in_rounds, unequal_in}
use Rattle.rule_bindings.specs.Notes.{unequal_rounds}
use Rattle.rule_bindings.specs.declared.rounds.Rounds.{Rounds}
use Rattle.rule_bindings.specs.declared.rounds.Task.{Task}
use Rattle.rule_bindings.specs.declared.rounds.Task.TheVariants.{Items as items_task, Leave, Round}

-- the first in a repetition
abbrev pub unequal_here : Map → List ℕ → Items → RepeatKind → Option Unequal
unequal_here m ns body op =
    option_and_then
    (unequal_rounds m (λ r. unequal_in m (ns ++ (r ∷ [])) body) ns (names body) op)
    (first_counted m ns (names body))

-- the first in the iterations that are left
abbrev pub rounds_left : Map → List ℕ → Rounds → Option Unequal
rounds_left m ns x =
    in_rounds (λ r. unequal_in m (ns ++ (r ∷ [])) (items_of x.body.now)) x.left x.number

-- the first in these tasks, the next one first, inside these iterations
abbrev pub left_in : Map → List Task → List ℕ → Option Unequal
left_in m [] ns = None
left_in m (items_task ops ∷ ts) ns =
    option_or (unequal_in m ns (items_of ops.now)) (left_in m ts ns)
left_in m (Round x ∷ ts) ns = option_or (rounds_left m ns x) (left_in m ts ns)
left_in m (Leave ∷ ts) ns = left_in m ts (around ns)

-- how much is left to do
abbrev pub weight_of : Task → ℕ
weight_of (items_task ops) = 1 + work_of (items_of ops.now)
weight_of (Round x) = 1 + x.left * (work_of (items_of x.body.now) + 3)
weight_of Leave = 1

abbrev pub weight_of_all : List Task → ℕ
weight_of_all ts = sum_by weight_of ts
