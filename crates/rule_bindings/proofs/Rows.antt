-- Worked rows: what metavariables stand for, iteration by iteration.
use Rattle.std.proofs.Common.{◌≡◌, refl, ℕ, List, [], ◌∷◌, codes, Some, None}
use Rattle.tt_data.specs.Forest.{Forest, empty}
use Rattle.mbe_rules.specs.declared.parser.MetaVarKind.TheVariants as kind
use Rattle.mbe_matcher.specs.Bindings.{bindings, fragment, no_more, rounds}
use Rattle.mbe_matcher.specs.Readings.{Move, enter, fragment_move, leave, next_round, nothing_move}
use Rattle.mbe_matcher.specs.Readings.{separator_move, skip, unit_move}
use Rattle.rule_bindings.specs.BoundValues.{BoundValue, map_values}

module _ (f g h : Forest) where
  -- what `$x:expr` and `$v:vis` stand for in these iterations
  abbrev x : List ℕ → Forest → BoundValue
  x around trees =
      record { name = codes "x"; iterations = around; fragment = Some (kind.Expr, trees) }

  abbrev v : List ℕ → Forest → BoundValue
  v around trees =
      record { name = codes "v"; iterations = around; fragment = Some (kind.Vis, trees) }

  abbrev no_x : List ℕ → BoundValue
  no_x around = record { name = codes "x"; iterations = around; fragment = None }

  -- `$x:expr` consumes an expression
  abbrev take_x : Forest → Move
  take_x trees = fragment_move (codes "x") kind.Expr trees

  -- `$x:expr`
  pub alone : map_values ((codes "x", fragment kind.Expr f) ∷ []) ≡ x [] f ∷ []
  alone = refl

  -- `$($x:expr),*` on two expressions
  pub two : map_values (bindings
      (enter ∷ take_x f ∷ separator_move ∷ next_round ∷ take_x g ∷ leave ∷ []))
      ≡ x (0 ∷ []) f ∷ x (1 ∷ []) g ∷ []
  two = refl

  -- the same on nothing
  pub none : map_values (bindings (skip (codes "x" ∷ []) ∷ [])) ≡ no_x [] ∷ []
  none = refl

  -- `$([$($x:expr),*])*` on a list of one expression, and one of two
  pub nested : map_values (bindings
      (enter ∷ unit_move ∷ enter ∷ take_x f ∷ leave ∷ unit_move ∷ next_round
      ∷ unit_move ∷ enter ∷ take_x g ∷ separator_move ∷ next_round ∷ take_x h ∷ leave ∷ unit_move
      ∷ leave ∷ []))
      ≡ x (0 ∷ 0 ∷ []) f ∷ x (1 ∷ 0 ∷ []) g ∷ x (1 ∷ 1 ∷ []) h ∷ []
  nested = refl

  -- on an empty list, and one of one expression
  pub empty-list : map_values (bindings
      (enter ∷ unit_move ∷ skip (codes "x" ∷ []) ∷ unit_move ∷ next_round
      ∷ unit_move ∷ enter ∷ take_x f ∷ leave ∷ unit_move ∷ leave ∷ []))
      ≡ no_x (0 ∷ []) ∷ x (1 ∷ 0 ∷ []) f ∷ []
  empty-list = refl

  -- values of no iteration
  pub no-iteration : map_values ((codes "x", rounds no_more) ∷ []) ≡ no_x [] ∷ []
  no-iteration = refl

  -- `$($v:vis $x:expr),*` on two expressions, the first with a visibility: name after name
  pub two-names : map_values (bindings
      (enter ∷ fragment_move (codes "v") kind.Vis f ∷ take_x g ∷ separator_move ∷ next_round
      ∷ nothing_move (codes "v") ∷ take_x h ∷ leave ∷ []))
      ≡ v (0 ∷ []) f ∷ v (1 ∷ []) empty ∷ x (0 ∷ []) g ∷ x (1 ∷ []) h ∷ []
  two-names = refl
