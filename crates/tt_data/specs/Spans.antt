-- The spans of tokens, and span maps of tokens.
use Rattle.std.specs.Prelude.{ℕ}
use Rattle.tt_data.specs.declared.span.Span.{Span}
use Rattle.tt_data.specs.declared.span.SyntaxContext.TheVariants.{Written}
use Rattle.tt_data.specs.declared.delimiter.Delimiter.{Delimiter}
use Rattle.tt_data.specs.declared.leaf.Leaf.{Leaf}
use Rattle.tt_data.specs.declared.leaf.Leaf.TheVariants as as_leaf
use Rattle.tt_data.specs.declared.tree.TokenTree.{TokenTree}
use Rattle.tt_data.specs.declared.tree.TokenTree.TheVariants as token

-- the span of a leaf
abbrev pub span_of : Leaf → Span
span_of (as_leaf.Literal l) = l.span
span_of (as_leaf.Punct p) = p.span
span_of (as_leaf.Ident i) = i.span

-- the span at which a token begins: for a group that of its opening
abbrev pub first_span_of : TokenTree → Span
first_span_of (token.Leaf l) = span_of l
first_span_of (token.Subtree s) = s.delimiter.open_span

-- a leaf with f applied to its span
abbrev pub leaf_with : (Span → Span) → Leaf → Leaf
leaf_with f (as_leaf.Literal l) = as_leaf.Literal (record l { span = f l.span })
leaf_with f (as_leaf.Punct p) = as_leaf.Punct (record p { span = f p.span })
leaf_with f (as_leaf.Ident i) = as_leaf.Ident (record i { span = f i.span })

-- a delimiter with f applied to the spans of its two brackets
abbrev pub delimiter_with : (Span → Span) → Delimiter → Delimiter
delimiter_with f d = record { open_span = f d.open_span; close_span = f d.close_span; kind = d.kind }

-- a token with f applied to its spans
abbrev pub token_with : (Span → Span) → TokenTree → TokenTree
token_with f (token.Leaf l) = token.Leaf (leaf_with f l)
token_with f (token.Subtree s) = token.Subtree (record { delimiter = delimiter_with f s.delimiter; len = s.len })

-- a span with h applied to its anchor
abbrev pub anchor_with : (ℕ → ℕ) → Span → Span
anchor_with h s = record { range = s.range; anchor = h s.anchor; ctx = s.ctx }

-- the span that stands for no span
abbrev pub no_span : Span
no_span = record { range = record { start = 0; «end» = 0 }; anchor = 0; ctx = Written }
