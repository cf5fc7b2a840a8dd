-- A thread that goes on iteration by iteration
use Rattle.std.specs.Prelude.{◌≡◌, ℕ, ◌<◌, Bool, true, false, List, []}
use Rattle.mbe_rules.specs.Ops.{items_of}
use Rattle.mbe_rules.specs.declared.parser.MetaVarKind.{MetaVarKind}
use Rattle.mbe_matcher.specs.Grammar.{Grammar}
use Rattle.mbe_matcher.specs.Places.{place_of}
use Rattle.mbe_matcher.specs.Readings as r
use Rattle.mbe_matcher.specs.Rounds.{HasLone}
use Rattle.mbe_matcher.specs.Threads.{frames_of, moves_of, state_of}
use Rattle.mbe_matcher.specs.Units as u
use Rattle.mbe_matcher.specs.Ways.{Follows}
use Rattle.mbe_matcher.specs.declared.position.Place.{Place}
use Rattle.mbe_matcher.specs.declared.thread.Thread.{Thread}

-- it came from this state, by iterations of the metavariable, and can go on with one
abbrev pub Goes : Grammar → List ℕ → MetaVarKind → List r.Move → r.State → Thread → Place → Type 0
Goes gr n k ms s t place =
    HasLone (items_of t.items.now) (frames_of t.frames) n k × Follows gr ms s (moves_of t.moves) (state_of t (place_of place))

-- how much is left after the last iteration
abbrev pub left_in : Place → ℕ
left_in place = u.left (u.place place.rest [])

-- less is left if an iteration was passed, and else as much
abbrev pub IsFewer : Bool → ℕ → ℕ → Type 0
IsFewer true n m = n < m
IsFewer false n m = n ≡ m
