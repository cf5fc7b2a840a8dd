-- What a list of tokens begins with, and what it has at an index.
use Rattle.std.specs.Prelude.{ℕ, List, ◌∷◌, Option, Some, None, option_and_then, slice_get, Bool, true, false}
use Rattle.tt_data.specs.declared.leaf.Ident.{Ident}
use Rattle.tt_data.specs.declared.leaf.Leaf.{Leaf}
use Rattle.tt_data.specs.declared.leaf.Leaf.TheVariants as as_leaf
use Rattle.tt_data.specs.declared.leaf.LitKind.{LitKind}
use Rattle.tt_data.specs.declared.leaf.Punct.{Punct}
use Rattle.tt_data.specs.declared.leaf.Spacing.TheVariants.{Alone}
use Rattle.tt_data.specs.declared.tree.Subtree.{Subtree}
use Rattle.tt_data.specs.declared.tree.TokenTree.{TokenTree}
use Rattle.tt_data.specs.declared.tree.TokenTree.TheVariants as token

-- the first token if it is the head of a group, and those after it
abbrev pub head_in : List TokenTree → Option (Subtree × List TokenTree)
head_in (token.Subtree s ∷ more) = Some (s, more)
head_in _ = None

-- the first token if it is a leaf, and those after it
abbrev pub leaf_in : List TokenTree → Option (Leaf × List TokenTree)
leaf_in (token.Leaf l ∷ more) = Some (l, more)
leaf_in _ = None

-- the first token if it is a punct, and those after it
abbrev pub punct_in : List TokenTree → Option (Punct × List TokenTree)
punct_in (token.Leaf (as_leaf.Punct p) ∷ more) = Some (p, more)
punct_in _ = None

-- the first token if it is an identifier, and those after it
abbrev pub ident_in : List TokenTree → Option (Ident × List TokenTree)
ident_in (token.Leaf (as_leaf.Ident i) ∷ more) = Some (i, more)
ident_in _ = None

-- the kind of the first token if it is a literal, and the tokens after it
abbrev pub literal_in : List TokenTree → Option (LitKind × List TokenTree)
literal_in (token.Leaf (as_leaf.Literal l) ∷ more) = Some (l.kind, more)
literal_in _ = None

-- the head that a token is, if it is one
abbrev pub as_head : TokenTree → Option Subtree
as_head (token.Subtree s) = Some s
as_head (token.Leaf l) = None

-- how many tokens a token has inside: a head as many as it counts, a leaf none
abbrev pub inside_of : TokenTree → ℕ
inside_of (token.Leaf l) = 0
inside_of (token.Subtree s) = s.len

-- the head of the group that begins at an index, if one does
abbrev pub head_at : List TokenTree → ℕ → Option Subtree
head_at tokens at = option_and_then as_head (slice_get tokens at)

-- a leaf, with spacing `Alone` if it is a punct
abbrev pub alone : Leaf → Leaf
alone (as_leaf.Punct p) = as_leaf.Punct (record p { spacing = Alone })
alone l = l

-- a token, with spacing `Alone` if it is a punct
abbrev pub alone_token : TokenTree → TokenTree
alone_token (token.Leaf l) = token.Leaf (alone l)
alone_token (token.Subtree s) = token.Subtree s

-- whether a token is there, and is a leaf
abbrev pub is_leaf : Option TokenTree → Bool
is_leaf (Some (token.Leaf l)) = true
is_leaf found = false

-- whether a leaf is at this index of a flat list
abbrev pub has_leaf_at : ℕ → List TokenTree → Bool
has_leaf_at n tokens = is_leaf (slice_get tokens n)
