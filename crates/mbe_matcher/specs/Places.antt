-- Positions of the code, and what is there
use Rattle.std.specs.Prelude.{◌-◌, nat_le, zero, suc, ℕ, ◌&&◌, Bool, false, List, reverse, Option, Some, None, if◌then◌else◌}
use Rattle.tt.specs.declared.iter.TtElement.{TtElement}
use Rattle.tt.specs.declared.iter.TtElement.TheVariants as element
use Rattle.fragment_grammar.specs.Steps.{steps}
use Rattle.tt_data.specs.Forest.{Forest, leaf}
use Rattle.tt_data.specs.declared.leaf.Leaf.TheVariants as as_leaf
use Rattle.mbe_rules.specs.Text.{is_char, is_nil, is_truth, same_text}
use Rattle.mbe_matcher.specs.Readings.{past_trees}
use Rattle.mbe_matcher.specs.Units as u
use Rattle.mbe_matcher.specs.declared.position.Place.{Place}
use Rattle.mbe_matcher.specs.declared.position.Consumed.{Consumed}
use Rattle.mbe_matcher.specs.declared.position.Consumed.TheVariants.{Unit as takes_unit, Fragment as takes_trees}

-- the position in the argument that a position of the code stands for
abbrev pub place_of : Place → u.Place
place_of p = u.place p.rest (reverse p.outer.items)

-- the position after a move that consumes this, or nothing
abbrev pub place_after : u.Place → Option Consumed → u.Place
place_after p None = p
place_after p (Some takes_unit) = u.after_unit p
place_after p (Some (takes_trees n)) = past_trees n p

-- the name after a quote at the front of a list
abbrev pub quoted_name : Forest → Option (List ℕ)
quoted_name (leaf (as_leaf.Punct p) (leaf (as_leaf.Ident i) rest)) = if is_char "'" p then Some i.sym else None
quoted_name _ = None

-- a text without suffix is the name that is here, and is `true` or `false`
abbrev pub is_named_truth : List ℕ → List ℕ → u.UnitAt → Bool
is_named_truth text suffix (u.a_name n) = is_nil suffix && (same_text text n && is_truth n)
is_named_truth text suffix _ = false

-- what is left of a number after the steps of a tree: none if there are fewer
abbrev pub left_after : TtElement → ℕ → Option ℕ
left_after (element.Leaf l) (suc n) = Some n
left_after (element.Subtree s inner) (suc n) = if nat_le (suc (steps inner)) n then Some (n - suc (steps inner)) else None
left_after _ zero = None
