-- Bindings as they are collected, move by move.
use Rattle.std.specs.Prelude.{ℕ, suc, List, [], ◌∷◌, map, reverse}
use Rattle.tt_data.specs.Forest.{Forest, empty, leaf, group}
use Rattle.mbe_rules.specs.declared.parser.MetaVarKind.{MetaVarKind}
use Rattle.mbe_rules.specs.declared.parser.MetaVarKind.TheVariants.{Vis}
use Rattle.mbe_matcher.specs.Bindings.{Binding, Values, Map, fragment, bind, bind_skipped, bind_round, value_put}
use Rattle.mbe_matcher.specs.Bound.{map_of, standing_for, values_of}
use Rattle.mbe_matcher.specs.Readings.{Move, fragment_move, nothing_move, enter, skip, leave, next_round}
use Rattle.mbe_matcher.specs.declared.bind.Collected.{Collected}
use Rattle.mbe_matcher.specs.declared.bind.Open.{Open}
use Rattle.mbe_matcher.specs.declared.bind.Run.{Run}

-- bindings of the present iteration; around each open repetition, with its count of iterations
abbrev pub Collecting : Type 0
Collecting = Map × List (Map × ℕ)

-- an iteration has ended, and another begins
abbrev pub round_ended : Map → List (Map × ℕ) → Collecting
round_ended m [] = (m, [])
round_ended m (o ∷ opens) = ([], (bind_round o.1 m o.0, suc o.1) ∷ opens)

-- the last iteration has ended
abbrev pub repetition_ended : Map → List (Map × ℕ) → Collecting
repetition_ended m [] = (m, [])
repetition_ended m (o ∷ opens) = (bind_round o.1 m o.0, opens)

-- after one more move
abbrev pub after : Move → Collecting → Collecting
after (fragment_move n k f) s = (bind n (fragment k f) s.0, s.1)
after (nothing_move n) s = (bind n (fragment Vis empty) s.0, s.1)
after (skip ns) s = (bind_skipped ns s.0, s.1)
after enter s = ([], (s.0, 0) ∷ s.1)
after next_round s = round_ended s.0 s.1
after leave s = repetition_ended s.0 s.1
after _ s = s

-- after these moves
abbrev pub after_all : List Move → Collecting → Collecting
after_all [] s = s
after_all (m ∷ ms) s = after_all ms (after m s)

-- an open repetition of the code
abbrev pub open_of : Open → Map × ℕ
open_of o = (map_of o.around, o.rounds)

-- open repetitions, the innermost last
abbrev pub opens_of : List Open → List (Map × ℕ)
opens_of os = map open_of (reverse os)

-- what the code has collected
abbrev pub collected_of : Collected → Collecting
collected_of c = (map_of c.here, opens_of c.opens.items)

-- values of iterations, and that of the iteration that goes on, with its index
abbrev pub Running : Type 0
Running = Values × Binding × ℕ

-- for each of these trees the iteration ends, and the tree is the value of the next one
abbrev pub run_through : MetaVarKind → Forest → Running → Running
run_through k empty x = x
run_through k (leaf l rest) x = run_through k rest (value_put x.2 x.1 x.0, fragment k (leaf l empty), suc x.2)
run_through k (group d inner rest) x = run_through k rest (value_put x.2 x.1 x.0, fragment k (group d inner empty), suc x.2)

-- what the code has of them
abbrev pub run_of : Run → Running
run_of x = (values_of x.values.items, standing_for x.last, x.number)
