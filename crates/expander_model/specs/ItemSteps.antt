-- What the functions that find whole items read.
use Rattle.std.specs.Prelude.{ℕ, Bool, false, ◌||◌, nat_eq, Option}
use Rattle.tt_data.specs.Forest.{Forest}
use Rattle.tt_data.specs.declared.leaf.Leaf.{Leaf}
use Rattle.tt_data.specs.declared.leaf.Leaf.TheVariants as as_leaf
use Rattle.tt.specs.FirstTrees.{first_ident}
use Rattle.cfg_options.specs.small_grammar.Text.{◌>>=◌}
use Rattle.expander_model.specs.WholeItems.{behind_colons, is_bodied, is_extern_block, is_short, is_whole_call}

-- a leaf is a punct of this character
abbrev pub is_char_of : ℕ → Leaf → Bool
is_char_of c (as_leaf.Punct p) = nat_eq p.char c
is_char_of c _ = false

-- what follows a name at the beginning that has a `::` after it
abbrev pub behind_name : Forest → Option Forest
behind_name f = do
  (name, after) ← first_ident f
  behind_colons after

-- behind attributes and visibility, the trees are one item
abbrev pub is_item : Forest → Bool
is_item f = is_bodied f || (is_extern_block f || (is_short f || is_whole_call f))
