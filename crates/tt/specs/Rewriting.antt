-- What a list of trees becomes if a callback says of each token, in pre-order, whether it stays.
use Rattle.std.specs.Prelude.{◌≡◌, ◌⊎◌, List, [], ◌∷◌, ◌++◌, Option, Some, None}
use Rattle.std.specs.Borrow.{Bor}
use Rattle.std.specs.List.{All}
use Rattle.std.specs.Fn.{CalledAt, Mut}
use Rattle.tt_data.specs.declared.delimiter.Delimiter.{Delimiter}
use Rattle.tt_data.specs.declared.leaf.Leaf.{Leaf}
use Rattle.tt_data.specs.declared.tree.TokenTree.{TokenTree}
use Rattle.tt_data.specs.declared.tree.TokenTree.TheVariants as token
use Rattle.tt_data.specs.Forest.{Forest, empty, leaf, group, joined, size, head_of}
use Rattle.tt.specs.declared.top_subtree.transform.TransformTtAction.{TransformTtAction}
use Rattle.tt.specs.declared.top_subtree.transform.TransformTtAction.TheVariants.{Keep, ReplaceWith}
use Rattle.tt.specs.Building.{Building, pushed, extended, opened}
use Rattle.tt.specs.Tops.{Top, forest_of_top}
use Rattle.tt.specs.Views.{forest}

-- the trees that replace a token: none if it stays
abbrev pub replacement : TransformTtAction → Option Forest
replacement Keep = None
replacement (ReplaceWith v) = Some (forest v)

-- a call of the callback: the token it was asked about, and the trees that replace it, if any
pub record Call : Type 0 where
  pub token : TokenTree
  pub put : Option Forest

-- the callback may be asked this, answer so, and be f' afterwards
abbrev pub IsAnswered : {F : Type 0} → Mut F (Bor TokenTree × Unit {0}) TransformTtAction → F → Call → F → Type 0
IsAnswered g f c f' = (action : TransformTtAction) × CalledAt g f c.token action f' × (replacement action ≡ c.put)

-- a tree under construction after a token: with its replacement, or the leaf, or the group opened
abbrev with_put : Option Forest → TokenTree → Building → Building
with_put (Some f) t b = extended b f
with_put None (token.Leaf l) b = pushed b l
with_put None (token.Subtree s) b = opened b s.delimiter.kind s.delimiter.open_span

-- a tree under construction after a call
abbrev pub with_answer : Call → Building → Building
with_answer c b = with_put c.put c.token b

-- these calls, one after the other, make the second list of trees from the first. Each tree is
-- asked about, a group by its head; a leaf that stays is kept, and a group that stays is kept
-- with what becomes of the trees inside. A tree that is replaced is not traversed
pub data IsRewritten : Forest → List Call → Forest → Type 0 where
  nothing : IsRewritten empty [] empty
  leaf_stays : (l : Leaf) (rest g : Forest) (more : List Call)
      → IsRewritten rest more g → IsRewritten (leaf l rest) (record { token = token.Leaf l; put = None } ∷ more) (leaf l g)
  leaf_gives_way : (l : Leaf) (rest put g : Forest) (more : List Call)
      → IsRewritten rest more g → IsRewritten (leaf l rest) (record { token = token.Leaf l; put = Some put } ∷ more) (joined put g)
  group_stays : (d : Delimiter) (inner rest f g : Forest) (inside more : List Call)
      → IsRewritten inner inside f → IsRewritten rest more g
      → IsRewritten (group d inner rest) (record { token = head_of d (size inner); put = None } ∷ inside ++ more) (group d f g)
  group_gives_way : (d : Delimiter) (inner rest put g : Forest) (more : List Call)
      → IsRewritten rest more g
      → IsRewritten (group d inner rest) (record { token = head_of d (size inner); put = Some put } ∷ more) (joined put g)

-- the call is about this tree's own head, which stays, or one group replaces the tree
abbrev pub LeavesOneGroup : Top → Call → Type 0
LeavesOneGroup t c = (c.token ≡ head_of t.delimiter (size t.inner)) × ((c.put ≡ None) ⊎ ((u : Top) × (c.put ≡ Some (forest_of_top u))))

-- the call removes its tree
abbrev pub IsRemoval : Call → Type 0
IsRemoval c = c.put ≡ Some empty

-- with these calls first, and then each tree left removed, a list of trees becomes this
abbrev pub IsStarted : Forest → List Call → Forest → Type 0
IsStarted f calls g = (more : List Call) × All IsRemoval more × IsRewritten f (calls ++ more) g
