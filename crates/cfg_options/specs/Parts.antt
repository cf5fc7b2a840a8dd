-- The value of a list of predicates from the left.
use Rattle.std.specs.Prelude.{Bool, ◌&&◌, ◌||◌, not, List, [], ◌∷◌, Option}
use Rattle.std.specs.Prelude.{Some, None}
use Rattle.tt_data.specs.Forest.{Forest, empty}
use Rattle.small_grammar.specs.Text.{◌>>=◌}
use Rattle.cfg_options.specs.Conditions.{cut_at_commas}
use Rattle.cfg_options.specs.declared.predicate.SoFar.{SoFar}
use Rattle.cfg_options.specs.declared.predicate.SoFar.TheVariants.{All, Any, Not, NotOf}
use Rattle.cfg_options.specs.declared.predicate.OpenList.{OpenList}

-- what the values of a list so far give with one more
abbrev pub with_value : SoFar → Bool → Option SoFar
with_value (All all) b = Some (All (all && b))
with_value (Any any) b = Some (Any (any || b))
with_value Not b = Some (NotOf b)
with_value (NotOf a) b = None

-- the value of a list that ends
abbrev pub ended : SoFar → Option Bool
ended (All all) = Some all
ended (Any any) = Some any
ended Not = None
ended (NotOf a) = Some (not a)

module _ (value : Forest → Option Bool) where
  -- the value of a list of which these parts are left
  abbrev pub value_of_rest : SoFar → List Forest → Option Bool
  value_of_rest s [] = ended s
  value_of_rest s (p ∷ ps) = do
    b ← value p
    next ← with_value s b
    value_of_rest next ps

  -- the value of an open list
  abbrev pub open_value : OpenList → Option Bool
  open_value l = value_of_rest l.so_far (cut_at_commas l.rest empty)
