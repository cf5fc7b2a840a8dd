-- What a walk that looks for calls has still to pass.
use Rattle.std.specs.Prelude.{◌≡◌, ◌<◌, ◌+◌, ◌*◌, ℕ, List, [], ◌∷◌, ◌++◌, filter}
use Rattle.tt_data.specs.Forest.{Forest, size}
use Rattle.expander_model.specs.Calls.{marked}
use Rattle.expander_model.specs.WalkSteps.{groups_of}
use Rattle.expander_model.specs.declared.tree_walk.Around.{Around}
use Rattle.expander_model.specs.declared.tree_walk.TreeWalk.{TreeWalk}
use Rattle.expander_scope.specs.Turns.{steps_in}
use Rattle.call_expansion.specs.Around.{calls_in, contains}
use Rattle.call_expansion.specs.declared.around.CallPlace.{CallPlace}

-- the calls behind the innermost group, and so on
abbrev pub calls_behind : List Around → List CallPlace
calls_behind [] = []
calls_behind (a ∷ around) = calls_in (marked a.behind) ++ calls_behind around

-- the calls that trees and the groups around them have still
abbrev pub calls_from : Forest → List Around → List CallPlace
calls_from here around = calls_in (marked here) ++ calls_behind around

abbrev pub calls_left : TreeWalk → List CallPlace
calls_left w = calls_from w.here (groups_of w)

-- a bound of the turns to come
abbrev pub turns_left : TreeWalk → ℕ
turns_left w = 2 * size w.here + steps_in (groups_of w)

-- a turn: the calls so far, with those around the byte that are left, stay the same
pub record Passes (at : ℕ) (old new : TreeWalk) (before after : List CallPlace) : Type 0 where
  pub calls : after ++ filter (contains at) (calls_left new)
      ≡ before ++ filter (contains at) (calls_left old)
  pub less : turns_left new < turns_left old

-- the end: no call is left
abbrev pub Ends : ℕ → TreeWalk → List CallPlace → List CallPlace → Type 0
Ends at old before after = after ≡ before ++ filter (contains at) (calls_left old)
