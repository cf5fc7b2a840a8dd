-- How a builder's tokens hold a tree under construction. The top and open groups have no count yet.
use Rattle.std.specs.Prelude.{◌≡◌, ℕ, ◌+◌, ◌-◌, ◌<◌, ◌≤◌, ◌⊎◌, List, [], ◌∷◌, length, take, drop, Option, Some, None, Bool, true, false, IfSome}
use Rattle.tt_data.specs.declared.tree.TokenTree.{TokenTree}
use Rattle.tt_data.specs.declared.tree.TokenTree.TheVariants as token
use Rattle.tt.specs.declared.top_subtree.builder.Opening.{Opening}
use Rattle.tt_data.specs.Forest.{Forest, forest_of, IsPreorder, size, front}
use Rattle.token_bytes.specs.declared.mark.Mark.{Mark}
use Rattle.token_bytes.specs.Marks.{mark_of, IsMarkIn, IsHeadIn, without_head}
use Rattle.token_bytes.specs.TokenLists.{alone_token}
use Rattle.tt.specs.Building.{Opened, count_in, is_invisible, last_alone, list_in}

-- how many tokens come before the trees of the innermost list; openings come innermost first
abbrev pub start_of : List Opening → ℕ
start_of [] = 1
start_of (o ∷ outer) = o.at.count + 1

-- the trees inside the innermost open group, or the top; openings come innermost first
abbrev pub here_of : List TokenTree → List Opening → Forest
here_of tokens [] = forest_of (drop 1 tokens)
here_of tokens (o ∷ outer) = forest_of (drop (o.at.count + 1) tokens)

-- the open groups, each with the trees before it in its list
abbrev pub groups_of : List TokenTree → List Opening → List Opened
groups_of tokens [] = []
groups_of tokens (o ∷ outer) =
    record { kind = o.kind; open_span = o.open_span; before = here_of (take o.at.count tokens) outer } ∷ groups_of (take o.at.count tokens) outer

-- each opening is among the tokens; between two openings, and after the last, come whole trees
abbrev pub IsHeld : List TokenTree → List Opening → Type 0
IsHeld tokens [] = (0 < length tokens) × IsPreorder (drop 1 tokens)
IsHeld tokens (o ∷ outer) = (o.at.count < length tokens) × IsPreorder (drop (o.at.count + 1) tokens) × IsHeld (take o.at.count tokens) outer

-- whole trees end right before this index, in the list that it is in
abbrev pub IsCut : ℕ → List TokenTree → List Opening → Type 0
IsCut at tokens [] = IsHeld (take at tokens) []
IsCut at tokens (o ∷ outer) = ((o.at.count < at) × IsHeld (take at tokens) (o ∷ outer)) ⊎ ((at < o.at.count) × IsCut at (take o.at.count tokens) outer)

-- a tree begins at the index, if there is one
abbrev pub IsTreeAt : Option ℕ → List TokenTree → List Opening → Type 0
IsTreeAt None tokens openings = Unit {0}
IsTreeAt (Some at) tokens openings = (at < length tokens) × IsCut at tokens openings

-- whole trees end right before this index in its list; an open group's token is in the list around
abbrev pub IsSettled : ℕ → List Opened → Forest → Type 0
IsSettled at [] here = (0 < at) × (size (front (at - 1) here) ≡ at - 1)
IsSettled at (o ∷ outer) here =
    ((count_in (o ∷ outer) < at) × (size (front (at - (1 + count_in (o ∷ outer))) here) ≡ at - (1 + count_in (o ∷ outer))))
    ⊎ ((at ≤ count_in (o ∷ outer)) × IsSettled at outer o.before)

-- whether a token begins an invisible group
abbrev pub begins_invisible : TokenTree → Bool
begins_invisible (token.Subtree s) = is_invisible s.delimiter.kind
begins_invisible (token.Leaf l) = false

-- an opening, once the head at an index is taken out
abbrev pub moved_back : ℕ → Opening → Opening
moved_back at o = record { at = without_head at o.at; kind = o.kind; open_span = o.open_span }

-- the index at a mark, if there is one
abbrev pub index_of : Option Mark → Option ℕ
index_of None = None
index_of (Some m) = Some m.count

-- the top's head and those of open groups are right after their marks
abbrev pub AreHeads : List TokenTree → List Opening → Type 0
AreHeads tokens [] = IsHeadIn (mark_of []) tokens
AreHeads tokens (o ∷ outer) = IsHeadIn o.at tokens × AreHeads tokens outer

-- a builder's marks: of its open groups, of the group closed last, and the one that no closed group lies across
pub record AreMarks (tokens : List TokenTree) (openings : List Opening) (last : Option Mark) (settled : Mark) : Type 0 where
  pub heads : AreHeads tokens openings
  pub closed : IfSome last (λ m. IsMarkIn m tokens)
  pub known : IsMarkIn settled tokens

-- the list in which so many groups are open: the mark before its trees, and all tokens up to its end
pub record IsListAt (tokens : List TokenTree) (openings : List Opening) (depth : ℕ) (start : Mark) (upto : List TokenTree) : Type 0 where
  pub inside : List Opening
  pub held : IsHeld upto inside
  pub start_is : start.count ≡ start_of inside
  pub marked : IsMarkIn start tokens
  pub first : upto ≡ take (length upto) tokens
  pub list : list_in depth (groups_of tokens openings) (here_of tokens openings) ≡ Some (groups_of upto inside, here_of upto inside)

-- there is no such list
abbrev pub IsNoListAt : List TokenTree → List Opening → ℕ → Type 0
IsNoListAt tokens openings depth = list_in depth (groups_of tokens openings) (here_of tokens openings) ≡ None

-- tokens, with spacing `Alone` for the last if it is a punct
abbrev pub with_last_alone : List TokenTree → List TokenTree
with_last_alone [] = []
with_last_alone (t ∷ []) = alone_token t ∷ []
with_last_alone (t ∷ (u ∷ more)) = t ∷ with_last_alone (u ∷ more)

-- the same for trees, where it is said so
abbrev pub alone_where : Bool → Forest → Forest
alone_where true f = last_alone f
alone_where false f = f
