-- A thread that is alone, as long as its way is clear
use Rattle.std.specs.Prelude.{◌≡◌, ℕ, Bool, false, List, [], ◌∷◌, map, Option, Some, None, option_map}
use Rattle.mbe_rules.specs.Items.{Items}
use Rattle.mbe_matcher.specs.Grammar.{Grammar}
use Rattle.mbe_matcher.specs.Positions.{IsIn}
use Rattle.mbe_matcher.specs.Readings as r
use Rattle.mbe_matcher.specs.Rounds.{WaitsAfter, WaitsAlone}
use Rattle.mbe_matcher.specs.Threads.{Waits, made_of, extended, moves_of, state_of}
use Rattle.mbe_matcher.specs.Units as u
use Rattle.mbe_matcher.specs.Waiting.{Good, ended, pending, prefixed, settled_at}
use Rattle.mbe_matcher.specs.declared.step.Choice.{Choice}
use Rattle.mbe_matcher.specs.declared.thread.Thread.{Thread}
use Rattle.mbe_matcher.specs.declared.way.Way.{Way}
use Rattle.mbe_matcher.specs.declared.way.Way.TheVariants as way
use Rattle.mbe_matcher.specs.declared.way.Alone.{Alone}
use Rattle.mbe_matcher.specs.declared.way.Alone.TheVariants as lone

-- no move is made from this state, whatever the grammar answers, and it is not at the end
abbrev pub HasNoMove : r.State → Type 0
HasNoMove s = (gr : Grammar) → (r.next gr s ≡ []) × (r.has_used_up s ≡ false)

-- a choice that consumes nothing, and leads to no move
abbrev pub IsDead : r.Choice → Type 0
IsDead d = (r.takes d.0 ≡ false) × HasNoMove d.1

-- of these choices, this one alone may lead on
pub data IsOnlyOf (d : r.Choice) : List r.Choice → Type 0 where
  alone : IsOnlyOf d (d ∷ [])
  first : {e : r.Choice} → IsDead e → IsOnlyOf d (d ∷ e ∷ [])
  second : {e : r.Choice} → IsDead e → IsOnlyOf d (e ∷ d ∷ [])

-- of the choices of a thread, this one alone may lead on
abbrev pub IsOnly : Grammar → u.Place → Thread → Choice → Type 0
IsOnly gr p t c =
    (d : r.Choice) × (made_of p c ≡ extended (moves_of t.moves) d) × IsOnlyOf d (r.next gr (state_of t p))

-- a state, with the moves that lead to it, leads to the same as another one, which is at the same
-- position and as good
abbrev pub LeadsAs : Grammar → List r.Move → r.State → List r.Move → r.State → Type 0
LeadsAs gr ms s ns t =
    ((N : ℕ) → Good N s → Good N t × (map (prefixed ms) (settled_at gr s) ≡ map (prefixed ns) (settled_at gr t)))
    × ((pattern : Items) → IsIn pattern s → IsIn pattern t)
    × (r.place_of t ≡ r.place_of s)

-- what a thread leads to
abbrev pub IsWay : Grammar → u.Place → Thread → Way → Type 0
IsWay gr p t (way.Waits w) = WaitsAlone gr p t w
IsWay gr p t way.Stops = (N : ℕ) → Good N (state_of t p) → map (prefixed (moves_of t.moves)) (settled_at gr (state_of t p)) ≡ []
IsWay gr p t (way.Open v) = LeadsAs gr (moves_of t.moves) (state_of t p) (moves_of v.moves) (state_of v p)

-- a state with the moves that lead to it, reached from another one: any number of times exactly one
-- path waits, and its last move consumes something
pub data Follows (gr : Grammar) (ms : List r.Move) (s : r.State) : List r.Move → r.State → Type 0 where
  stays : Follows gr ms s ms s
  leads : {ns ks : List r.Move} {t v : r.State} → Follows gr ms s ns t → LeadsAs gr ns t ks v → Follows gr ms s ks v
  goes_on : {ns ks : List r.Move} {t v : r.State} {b : Bool} → Follows gr ms s ns t → WaitsAfter gr ns t (pending ks b v) → Follows gr ms s ks v

-- what waits at last: nothing, or one path that has ended
abbrev pub last_waits : Option (List r.Move) → List Waits
last_waits None = []
last_waits (Some ms) = ended ms ∷ []

-- what a thread that is alone leads to, at this position
abbrev pub LeadsAlone : Grammar → List r.Move → r.State → u.Place → Alone → Type 0
LeadsAlone gr ms s p (lone.Open t) = Follows gr ms s (moves_of t.moves) (state_of t p)
LeadsAlone gr ms s p (lone.Done o) =
    (ns : List r.Move) × (t : r.State) × Follows gr ms s ns t
    × ((N : ℕ) → Good N t → map (prefixed ns) (settled_at gr t) ≡ last_waits (option_map moves_of o))
