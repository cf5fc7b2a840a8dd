-- The leaf that a token is, by its sort.
use Rattle.std.specs.Prelude.{Option, Some, None}
use Rattle.tt_data.specs.declared.leaf.Ident.{Ident}
use Rattle.tt_data.specs.declared.leaf.Leaf.{Leaf}
use Rattle.tt_data.specs.declared.leaf.Leaf.TheVariants as as_leaf
use Rattle.tt_data.specs.declared.leaf.LitKind.{LitKind}
use Rattle.tt_data.specs.declared.leaf.Punct.{Punct}
use Rattle.tt_data.specs.declared.tree.TokenTree.{TokenTree}
use Rattle.tt_data.specs.declared.tree.TokenTree.TheVariants as token

-- the leaf that a token is, if it is one
abbrev pub leaf_of : TokenTree → Option Leaf
leaf_of (token.Leaf l) = Some l
leaf_of (token.Subtree s) = None

-- the punct that a token is, if it is one
abbrev pub punct_of : TokenTree → Option Punct
punct_of (token.Leaf (as_leaf.Punct p)) = Some p
punct_of others = None

-- the identifier that a token is, if it is one
abbrev pub ident_of : TokenTree → Option Ident
ident_of (token.Leaf (as_leaf.Ident i)) = Some i
ident_of others = None

-- the kind of the literal that a token is, if it is one
abbrev pub kind_of : TokenTree → Option LitKind
kind_of (token.Leaf (as_leaf.Literal l)) = Some l.kind
kind_of others = None
