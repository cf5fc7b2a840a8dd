-- What an iterator over a list of trees gives, tree by tree.
use Rattle.std.specs.Prelude.{◌≡◌, ◌-◌, List, [], ◌∷◌, Option, Some, None, option_map, slice_get}
use Rattle.tt_data.specs.declared.span.Span.{Span}
use Rattle.tt_data.specs.declared.tree.TokenTree.{TokenTree}
use Rattle.tt_data.specs.declared.tree.TokenTree.TheVariants as token
use Rattle.tt_data.specs.Forest.{Forest, empty, leaf, group, size, preorder}
use Rattle.tt_data.specs.Spans.{span_of}
use Rattle.tt.specs.declared.iter.TtElement.{TtElement}
use Rattle.tt.specs.declared.iter.TtElement.TheVariants as element

-- the trees of a forest, one by one: a group has its delimiter, token count and forest inside
abbrev pub elements : Forest → List TtElement
elements empty = []
elements (leaf l rest) = element.Leaf l ∷ elements rest
elements (group d inner rest) = element.Subtree (record { delimiter = d; len = size inner }) inner ∷ elements rest

-- a call of `next` at a forest gave its first tree and left the others
abbrev pub IsNext : Forest → Option TtElement → Forest → Type 0
IsNext f None g = (f ≡ empty) × (g ≡ empty)
IsNext f (Some (element.Leaf l)) g = f ≡ leaf l g
IsNext f (Some (element.Subtree s inner)) g = (f ≡ group s.delimiter inner g) × (s.len ≡ size inner)

-- the first tree of a forest, if it has one
abbrev pub first_element : Forest → Option TtElement
first_element empty = None
first_element (leaf l rest) = Some (element.Leaf l)
first_element (group d inner rest) = Some (element.Subtree (record { delimiter = d; len = size inner }) inner)

-- the span at which a tree begins: for a group that of its opening
abbrev pub place_of : TtElement → Span
place_of (element.Leaf l) = span_of l
place_of (element.Subtree s inner) = s.delimiter.open_span

-- the span at which the first tree of a forest begins, if it has one
abbrev pub first_place : Forest → Option Span
first_place f = option_map place_of (first_element f)

-- only the first tree of a forest, if it has one
abbrev pub first_alone : Forest → Option Forest
first_alone empty = None
first_alone (leaf l rest) = Some (leaf l empty)
first_alone (group d inner rest) = Some (group d inner empty)

-- the trees of a forest after the first
abbrev pub after_first : Forest → Forest
after_first empty = empty
after_first (leaf l rest) = rest
after_first (group d inner rest) = rest

-- the span that ends a token with nothing after it: a leaf's own, or a group's closing
abbrev pub last_span_of : TokenTree → Span
last_span_of (token.Leaf l) = span_of l
last_span_of (token.Subtree s) = s.delimiter.close_span

-- the span that ends the last of all tokens of a forest, if it has one
abbrev pub last_place : Forest → Option Span
last_place f = option_map last_span_of (slice_get (preorder f) (size f - 1))
