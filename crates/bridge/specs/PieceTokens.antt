-- The flat list of a piece's tokens: what the functions that make it promise each other.
use Rattle.std.specs.Prelude.{Bool, true, false, List, [], ◌∷◌}
use Rattle.tt_data.specs.Forest.{Forest, empty, leaf, group}
use Rattle.tt_data.specs.declared.tree.TokenTree.{TokenTree}
use Rattle.tt_data.specs.declared.tree.TokenTree.TheVariants as token
use Rattle.tt.specs.Building.{alone}

-- a token, with spacing `Alone` if it is a punct
abbrev pub alone_token : TokenTree → TokenTree
alone_token (token.Leaf l) = token.Leaf (alone l)
alone_token (token.Subtree s) = token.Subtree s

-- the tokens, the last of them with spacing `Alone` if it is a punct
abbrev pub last_token_alone : List TokenTree → List TokenTree
last_token_alone [] = []
last_token_alone (t ∷ []) = alone_token t ∷ []
last_token_alone (t ∷ (u ∷ more)) = t ∷ last_token_alone (u ∷ more)

-- whether the last tree is a leaf; if there is none, what is said of the tree before
abbrev pub ends_in_leaf : Bool → Forest → Bool
ends_in_leaf before empty = before
ends_in_leaf before (leaf l rest) = ends_in_leaf true rest
ends_in_leaf before (group d inner rest) = ends_in_leaf false rest
