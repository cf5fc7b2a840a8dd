-- The lists that are open while a predicate is read, and what they give.
use Rattle.std.specs.Prelude.{ℕ, ◌+◌, ◌<◌, ◌≤◌, Bool, true, false, codes, List}
use Rattle.std.specs.Prelude.{[], ◌∷◌, Option, option_map}
use Rattle.tt_data.specs.Forest.{Forest, empty, size}
use Rattle.small_grammar.specs.Text.{◌>>=◌}
use Rattle.cfg_options.specs.Conditions.{or_else}
use Rattle.cfg_options.specs.Conditions.{cut_at_commas, list_behind, predicate_value}
use Rattle.cfg_options.specs.Options.{options_of}
use Rattle.cfg_options.specs.Parts.{open_value, value_of_rest, with_value}
use Rattle.cfg_options.specs.Strings.{string_text}
use Rattle.cfg_options.specs.declared.options.CfgOptions.{CfgOptions}
use Rattle.cfg_options.specs.declared.predicate.SoFar.{SoFar}
use Rattle.cfg_options.specs.declared.predicate.SoFar.TheVariants.{All, Any, Not}
use Rattle.cfg_options.specs.declared.predicate.OpenList.{OpenList}
use Rattle.cfg_options.specs.declared.predicate.OpenLists.{OpenLists}
use Rattle.cfg_options.specs.declared.predicate.Turn.{Turn}
use Rattle.cfg_options.specs.declared.predicate.Turn.TheVariants.{More, Done}

-- a list before its first predicate
abbrev pub begun : SoFar → Forest → OpenList
begun s f = record { so_far = s; rest = f }

-- the list that a predicate is
abbrev pub list_of : Forest → Option OpenList
list_of p =
    or_else (option_map (begun (All true)) (list_behind (codes "all") p))
    (or_else (option_map (begun (Any false)) (list_behind (codes "any") p))
    (option_map (begun Not) (list_behind (codes "not") p)))

-- the value of a predicate under these options
abbrev pub value_under : CfgOptions → Forest → Option Bool
value_under options = predicate_value (options_of options) string_text

module _ (value : Forest → Option Bool) where
  -- the value of an open list once that of the predicate that is read in it is known
  abbrev pub value_around : OpenList → Option Bool → Option Bool
  value_around l v = do
    b ← v
    next ← with_value l.so_far b
    value_of_rest value next (cut_at_commas l.rest empty)

  -- the value of the outermost list once that of the innermost is known, the outermost first
  abbrev pub whole_value : List OpenList → Option Bool → Option Bool
  whole_value [] v = v
  whole_value (l ∷ ls) v = value_around l (whole_value ls v)

  -- the value of the outermost of the lists
  abbrev pub lists_value : OpenLists → Option Bool
  lists_value l = whole_value l.around.items (open_value value l.list)

  -- the value that a step leads to
  abbrev pub turn_value : Turn → Option Bool
  turn_value (More l) = lists_value l
  turn_value (Done v) = v

-- the tokens that are left in lists, and one for each list
abbrev pub left_in : List OpenList → ℕ
left_in [] = 0
left_in (l ∷ ls) = 1 + size l.rest + left_in ls

-- the tokens that are left, and one for each list but the innermost
abbrev pub weight : OpenLists → ℕ
weight l = size l.list.rest + left_in l.around.items

-- a step leads to the value, or to lists of less weight
abbrev pub IsLess : ℕ → Turn → Type 0
IsLess n (More l) = weight l < n
IsLess n (Done v) = Unit {0}

-- a step leads to the value, or to lists of no more weight
abbrev pub IsWithin : ℕ → Turn → Type 0
IsWithin n (More l) = weight l ≤ n
IsWithin n (Done v) = Unit {0}
