-- A list searched tree by tree, from the left, where its pieces are not cut off beforehand.
use Rattle.std.specs.Prelude.{◌≡◌, ℕ, Bool, true, false, List, Option, if◌then◌else◌}
use Rattle.tt_data.specs.Forest.{Forest, empty, leaf, group}
use Rattle.tt_data.specs.declared.delimiter.Delimiter.{Delimiter}
use Rattle.tt_data.specs.declared.leaf.Leaf.{Leaf}
use Rattle.tt_data.specs.declared.leaf.Punct.{Punct}
use Rattle.expander_model.specs.Calls.{Path, bare, from_crate, other, is_bang_group, is_colons}
use Rattle.expander_model.specs.Calls.{is_root, marked}
use Rattle.expander_model.specs.Definitions.{Definition}
use Rattle.expander_model.specs.Expansion.{World}
use Rattle.expander_model.specs.PieceStates.{after_leaf, after_group}
use Rattle.expander_model.specs.Pieces.{cut}
use Rattle.expander_model.specs.declared.begun.Begun.{Begun}
use Rattle.expander_model.specs.declared.begun.Begun.TheVariants.{Nothing}
use Rattle.expander_model.specs.declared.dialect.Dialect.{Dialect}
use Rattle.expander_model.specs.Scoping.{Around, Scoped, Search, Expander, and_next, search_trees}
use Rattle.expander_model.specs.Scoping.{search_pieces}

-- a tree before those of the first piece ahead
abbrev pub with_leaf : Leaf → Forest × Forest → Forest × Forest
with_leaf l p = (leaf l p.0, p.1)

abbrev pub with_group : Delimiter → Forest → Forest × Forest → Forest × Forest
with_group d inner p = (group d inner p.0, p.1)

-- no tree has come of the piece
abbrev pub is_begun : Begun → Bool
is_begun Nothing = false
is_begun _ = true

-- the trees up to the end of a piece of which so much came, and those after it
abbrev pub piece_ahead : Begun → Forest → Forest × Forest
piece_ahead s empty = (empty, empty)
piece_ahead s (leaf l rest) =
    if is_begun (after_leaf s l) then with_leaf l (piece_ahead (after_leaf s l) rest)
    else (leaf l empty, rest)
piece_ahead s (group d inner rest) =
    if is_begun (after_group s d.kind)
    then with_group d inner (piece_ahead (after_group s d.kind) rest)
    else (group d inner empty, rest)

-- these tokens before a visible group are a call's: its path, its name and `!`
abbrev pub AreOfCall : Path → Punct → Delimiter → Type 0
AreOfCall bare bang d = is_bang_group bang d ≡ true
AreOfCall (other p q) bang d = (is_bang_group bang d ≡ true) × (is_colons p q ≡ true)
AreOfCall (from_crate root p q) bang d =
    (is_bang_group bang d ≡ true) × (is_colons p q ≡ true) × (is_root root ≡ true)

module _ {D : Type 0} (dialect : Dialect) (world : World D) (local : Definition → D)
    (scope : List ℕ → Option D) (search : Search D) (deeper : Option (Expander D)) where
  -- the search of pieces that are not begun
  abbrev pub pieces_left : Around → Forest → Scoped D
  pieces_left around f = search_pieces dialect world local scope search deeper around (cut f)

  -- the search of what is left of a list, where so much came of a piece that is no definition
  abbrev pub trees_left : Begun → Around → Forest → Scoped D
  trees_left s around f =
      let p : Forest × Forest = piece_ahead s f in
      and_next (search_trees dialect world local scope search deeper s around (marked p.0))
      (λ here. pieces_left here p.1) around

  -- the same, once a tree ended the piece or went on with it
  abbrev pub left_after : Begun → Around → Forest → Scoped D
  left_after s around f = if is_begun s then trees_left s around f else pieces_left around f
