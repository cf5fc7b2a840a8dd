-- How a cursor's flat list and two numbers hold its position.
use Rattle.std.specs.Prelude.{◌≡◌, ℕ, ◌+◌, ◌-◌, List, [], ◌∷◌, nat_eq, nat_le, if◌then◌else◌}
use Rattle.tt_data.specs.declared.tree.TokenTree.{TokenTree}
use Rattle.tt_data.specs.declared.tree.TokenTree.TheVariants as token
use Rattle.tt_data.specs.Forest.{Forest, empty, leaf, group, joined, size, preorder, forest_of}
use Rattle.token_bytes.specs.declared.mark.Place.{Place as TokenPlace}
use Rattle.token_bytes.specs.Lists.{BeginsListOf}
use Rattle.token_bytes.specs.Marks.{IsPlaceIn}
use Rattle.tt.specs.Places.{Around, Place}
use Rattle.tt.specs.declared.buffer.ListAround.{ListAround}

-- all trees, with these groups around the innermost list
abbrev pub whole_in : List Around → Forest → Forest
whole_in [] f = f
whole_in (a ∷ outer) f = whole_in outer (joined a.before (group a.delimiter f a.after))

-- how many tokens come before the innermost list: before each group around it, and its head
abbrev pub start_in : List Around → ℕ
start_in [] = 0
start_in (a ∷ outer) = start_in outer + size a.before + 1

-- the flat list has all trees; so many tokens come before the innermost list, and the position
pub record Stands (tokens : List TokenTree) (start at : ℕ) (p : Place) : Type 0 where
  pub whole : tokens ≡ preorder (whole_in p.around (joined p.before p.after))
  pub start_is : start ≡ start_in p.around
  pub at_is : at ≡ start + size p.before

-- the position among these trees, which follow `before` in a list inside the groups `around`:
-- `at` of their tokens come before it, and `start` before the innermost list (0 if that is this
-- one)
abbrev pub place_in : List Around → Forest → Forest → ℕ → ℕ → Place
place_in around before empty start at = record { around = around; before = before; after = empty }
place_in around before (leaf l rest) start at =
    if nat_eq at 0 then record { around = around; before = before; after = leaf l rest }
    else place_in around (joined before (leaf l empty)) rest (start - 1) (at - 1)
place_in around before (group d inner rest) start at =
    if nat_eq at 0 then record { around = around; before = before; after = group d inner rest }
    else if nat_eq start 0 then place_in around (joined before (group d inner empty)) rest 0 (at - 1 - size inner)
    else if nat_le start (size inner + 1)
    then place_in (record { delimiter = d; before = before; after = rest } ∷ around) empty inner (start - 1) (at - 1)
    else place_in around (joined before (group d inner empty)) rest (start - 1 - size inner) (at - 1 - size inner)

-- the position that a flat list and the two numbers hold
abbrev pub place_of : List TokenTree → ℕ → ℕ → Place
place_of tokens start at = place_in [] empty (forest_of tokens) start at

-- where a cursor's list begins, and where it stands, are places among the tokens
pub record CursorPlaces (tokens : List TokenTree) (start at : TokenPlace) : Type 0 where
  pub begins : IsPlaceIn start tokens
  pub stands : IsPlaceIn at tokens

-- they do hold a position
abbrev pub IsPlaced : List TokenTree → ℕ → ℕ → Type 0
IsPlaced tokens start at = Stands tokens start at (place_of tokens start at)

-- the list with the group whose inside begins here begins at this place, which is one among the tokens
pub record IsKept (tokens : List TokenTree) (list : ListAround) : Type 0 where
  pub begins : BeginsListOf tokens (list.inside.count - 1) list.start.count
  pub marked : IsPlaceIn list.start tokens
