-- How the tokens that tokens of a text are read as share their ranges.
use Rattle.std.specs.Prelude.{ℕ, ◌+◌, ◌<◌, ◌≤◌, ◌^◌, All, List, [], ◌∷◌, ◌++◌, ⊤, replicate, sum_by, true, false, Option, Some, None}
use Rattle.rustc_lexer.specs.declared.token.DocStyle.{DocStyle}
use Rattle.rustc_lexer.specs.declared.token.DocStyle.TheVariants.{Outer, Inner}
use Rattle.rustc_lexer.specs.declared.token.Token.{Token}
use Rattle.rustc_lexer.specs.declared.token.TokenKind.{TokenKind}
use Rattle.rustc_lexer.specs.declared.token.TokenKind.TheVariants.{Whitespace, LineComment, BlockComment, Lifetime}
use Rattle.tt_data.specs.declared.span.TextRange.{TextRange}
use Rattle.bridge.specs.declared.printing.token_share.Share.{Share}
use Rattle.bridge.specs.declared.printing.token_share.Share.TheVariants.{Times, QuoteAndName}

-- how the tokens of the attribute that a comment is read as share its range; a plain one is none
abbrev pub comment_share : Option DocStyle → Share
comment_share None = Times 0
comment_share (Some Outer) = Times 6
comment_share (Some Inner) = Times 7

-- how the tokens that a token of this kind is read as share its range
abbrev pub share_of : TokenKind → Share
share_of Whitespace = Times 0
share_of (LineComment style) = comment_share style
share_of (BlockComment style true) = comment_share style
share_of (Lifetime false) = QuoteAndName
share_of _ = Times 1

-- the ranges of tokens that share this one
abbrev pub shared_ranges : Share → TextRange → List TextRange
shared_ranges (Times n) r = replicate n r
shared_ranges QuoteAndName r =
    record { start = r.start; «end» = r.start + 1 } ∷ record { start = r.start + 1; «end» = r.«end» } ∷ []

-- the ranges that tokens give, the first of which begins at the offset
abbrev pub token_ranges_from : ℕ → List Token → List TextRange
token_ranges_from at [] = []
token_ranges_from at (t ∷ more) =
    shared_ranges (share_of t.kind) (record { start = at; «end» = at + t.len }) ++ token_ranges_from (at + t.len) more

-- the ranges that are left: those that share a range, and those of tokens from an offset on
abbrev pub ranges_left : Share → TextRange → ℕ → List Token → List TextRange
ranges_left share r at tokens = shared_ranges share r ++ token_ranges_from at tokens

-- a quote and its name have a byte each
abbrev pub HasRoom : Share → TextRange → Type 0
HasRoom (Times n) r = ⊤
HasRoom QuoteAndName r = r.start < r.«end»

-- the range that is shared and the tokens that are left, of a byte or more each, end where a text
-- may end
abbrev pub AreInText : Share → TextRange → ℕ → List Token → Type 0
AreInText share r at tokens =
    HasRoom share r × (r.«end» < 2 ^ 32) × (at + sum_by (λ t. t.len) tokens < 2 ^ 32) × All (λ t. 1 ≤ t.len) tokens
