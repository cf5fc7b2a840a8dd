-- Lists of token trees, and the flat lists of tokens with counts that hold them.
use Rattle.std.specs.Prelude.{◌≡◌, ℕ, ◌+◌, ◌-◌, List, [], ◌∷◌, ◌++◌, nat_lt, if◌then◌else◌}
use Rattle.tt_data.specs.declared.span.Span.{Span}
use Rattle.tt_data.specs.declared.leaf.Leaf.{Leaf}
use Rattle.tt_data.specs.declared.delimiter.Delimiter.{Delimiter}
use Rattle.tt_data.specs.declared.tree.TokenTree.{TokenTree}
use Rattle.tt_data.specs.declared.tree.TokenTree.TheVariants as token
use Rattle.tt_data.specs.Spans.{leaf_with, delimiter_with, no_span}

-- a list of trees: each is a leaf, or a delimiter with a forest of its own
pub data Forest : Type 0 where
  empty : Forest
  leaf : Leaf → Forest → Forest
  group : Delimiter → Forest → Forest → Forest

-- two forests, one after the other
abbrev pub joined : Forest → Forest → Forest
joined empty g = g
joined (leaf l rest) g = leaf l (joined rest g)
joined (group d inner rest) g = group d inner (joined rest g)

-- the number of all tokens: each leaf, and each group with what it has inside
abbrev pub size : Forest → ℕ
size empty = 0
size (leaf l rest) = 1 + size rest
size (group d inner rest) = 1 + (size inner + size rest)

-- the head of a group that has so many tokens inside
abbrev pub head_of : Delimiter → ℕ → TokenTree
head_of d n = token.Subtree (record { delimiter = d; len = n })

-- the tokens of a forest, each group before the tokens inside it, with their number
abbrev pub preorder : Forest → List TokenTree
preorder empty = []
preorder (leaf l rest) = token.Leaf l ∷ preorder rest
preorder (group d inner rest) = head_of d (size inner) ∷ (preorder inner ++ preorder rest)

-- the first trees of a forest, as many as have n tokens together
abbrev pub front : ℕ → Forest → Forest
front n empty = empty
front n (leaf l rest) = if nat_lt 0 n then leaf l (front (n - 1) rest) else empty
front n (group d inner rest) = if nat_lt (size inner) n then group d inner (front (n - 1 - size inner) rest) else empty

-- the trees after those
abbrev pub back : ℕ → Forest → Forest
back n empty = empty
back n (leaf l rest) = if nat_lt 0 n then back (n - 1) rest else leaf l rest
back n (group d inner rest) = if nat_lt (size inner) n then back (n - 1 - size inner) rest else group d inner rest

-- the forest whose tokens these are: a group takes as many of those that follow as it counts
abbrev pub forest_of : List TokenTree → Forest
forest_of [] = empty
forest_of (token.Leaf l ∷ more) = leaf l (forest_of more)
forest_of (token.Subtree s ∷ more) = group s.delimiter (front s.len (forest_of more)) (back s.len (forest_of more))

-- a flat list holds a forest: each group counts what whole trees after it have
abbrev pub IsPreorder : List TokenTree → Type 0
IsPreorder tokens = preorder (forest_of tokens) ≡ tokens

-- a forest with f applied to every span
abbrev pub map_spans : (Span → Span) → Forest → Forest
map_spans f empty = empty
map_spans f (leaf l rest) = leaf (leaf_with f l) (map_spans f rest)
map_spans f (group d inner rest) = group (delimiter_with f d) (map_spans f inner) (map_spans f rest)

-- a forest without its spans
abbrev pub shape : Forest → Forest
shape = map_spans (λ _. no_span)
