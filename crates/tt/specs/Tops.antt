-- A whole tree: one group.
use Rattle.std.specs.Prelude.{◌≡◌, refl, List, ◌∷◌, Option, Some, None}
use Rattle.std.specs.Coded.{Coded, code_by, coded×}
use Rattle.tt_data.specs.declared.delimiter.Delimiter.{Delimiter}
use Rattle.tt_data.specs.declared.delimiter.DelimSpan.{DelimSpan}
use Rattle.tt_data.specs.declared.delimiter.DelimiterKind.TheVariants.{Invisible}
use Rattle.tt_data.specs.declared.tree.Subtree.{Subtree}
use Rattle.tt_data.specs.declared.tree.TokenTree.{TokenTree}
use Rattle.tt_data.specs.declared.tree.TokenTree.TheVariants as token
use Rattle.tt_data.specs.contracts.delimiter.Delimiter as delimiter_row
use Rattle.tt_data.specs.Forest.{Forest, empty, group, size, preorder, forest_of}
use Rattle.tt_data.specs.Spans.{no_span}
use Rattle.tt_data.specs.Coded.{forest_code}

-- the group's delimiter, and the trees inside
pub record Top : Type 0 where
  pub delimiter : Delimiter
  pub inner : Forest

-- the group's head: its delimiter, and the number of all tokens inside
abbrev pub head_of : Top → Subtree
head_of t = record { delimiter = t.delimiter; len = size t.inner }

-- no brackets, with these two ends
abbrev pub no_brackets : DelimSpan → Delimiter
no_brackets span = record { open_span = span.open_span; close_span = span.close_span; kind = Invisible }

-- a tree as a list of one group
abbrev pub forest_of_top : Top → Forest
forest_of_top t = group t.delimiter t.inner empty

-- all its tokens, the group's own first
abbrev pub tokens_of : Top → List TokenTree
tokens_of t = preorder (forest_of_top t)

-- a list of trees that is one group, as a tree
abbrev pub only_group : Forest → Option Top
only_group (group d inner empty) = Some (record { delimiter = d; inner = inner })
only_group f = None

-- the tree that a flat list is: a head, and all others inside; an empty one if it begins otherwise
abbrev pub tree_of : List TokenTree → Top
tree_of (token.Subtree s ∷ more) = record { delimiter = s.delimiter; inner = forest_of more }
tree_of tokens = record { delimiter = record { open_span = no_span; close_span = no_span; kind = Invisible }; inner = empty }

-- a flat list holds one group
abbrev pub IsOneGroup : List TokenTree → Type 0
IsOneGroup tokens = tokens_of (tree_of tokens) ≡ tokens

-- a whole tree is coded as its two parts
abbrev pub top_code : Coded Top
top_code =
    code_by (Delimiter × Forest) (coded× delimiter_row.the_row.coded forest_code)
    (λ t. (t.delimiter, t.inner)) (λ p. record { delimiter = p.0; inner = p.1 }) (λ _. refl)
