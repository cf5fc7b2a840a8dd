-- What the functions inside the crate read at the beginning of a list.
use Rattle.std.specs.Prelude.{Bool, false, Option, Some, None, unwrap_or}
use Rattle.tt_data.specs.Forest.{Forest, empty, leaf, group}
use Rattle.tt_data.specs.Literals.{LiteralParts}
use Rattle.tt_data.specs.declared.leaf.Leaf.TheVariants as as_leaf
use Rattle.bridge.specs.tt.FirstTrees.{first_punct}
use Rattle.bridge.specs.Text.{is_char}
use Rattle.small_grammar.specs.Text.{◌>>=◌, ◌>>◌}

-- a comma is at the beginning
abbrev pub begins_with_comma : Forest → Bool
begins_with_comma f = unwrap_or (do
  (p, rest) ← first_punct f
  Some (is_char "," p)) false

-- the literal that is all of the trees, behind a `=`
abbrev pub value_in : Forest → Option LiteralParts
value_in (leaf (as_leaf.Punct p) (leaf (as_leaf.Literal l) empty)) = is_char "=" p >> Some l
value_in _ = None

-- what follows the first tree
abbrev pub after_tree : Forest → Option Forest
after_tree empty = None
after_tree (leaf l rest) = Some rest
after_tree (group d inner rest) = Some rest
