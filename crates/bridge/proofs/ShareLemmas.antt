-- The tokens that one token is read as have the ranges of its share.
use Rattle.std.proofs.Common.{◌≡◌, refl, ℕ, List, [], ◌∷◌, true, false}
use Rattle.std.specs.Prelude.{Option, Some, None, map}
use Rattle.rustc_lexer.specs.declared.token.DocStyle.TheVariants.{Outer, Inner}
use Rattle.rustc_lexer.specs.declared.token.TokenKind.{TokenKind}
use Rattle.rustc_lexer.specs.declared.token.TokenKind.TheVariants as kind
use Rattle.tt_data.specs.declared.leaf.LitKind.{LitKind}
use Rattle.bridge.specs.PrintedRanges.{range_of_step}
use Rattle.bridge.specs.TokenShares.{share_of, shared_ranges}
use Rattle.bridge.specs.Reading.{PlacedToken, range_of}
use Rattle.bridge.specs.TokenSteps.{class_of, literal_class, literal_form, steps_of_class}

-- a literal has all of its range, whether or not it can be read
form_ranges : (o : Option LitKind) (n : ℕ) (t : PlacedToken) (more : List PlacedToken) → map range_of_step (steps_of_class (literal_class o n) t more) ≡ range_of t ∷ []
form_ranges None n t more = refl
form_ranges (Some f) n t more = refl

pub kind_ranges : (k : TokenKind) (t : PlacedToken) (more : List PlacedToken) → map range_of_step (steps_of_class (class_of k) t more) ≡ shared_ranges (share_of k) (range_of t)
kind_ranges (kind.LineComment None) t more = refl
kind_ranges (kind.LineComment (Some Outer)) t more = refl
kind_ranges (kind.LineComment (Some Inner)) t more = refl
kind_ranges (kind.BlockComment None true) t more = refl
kind_ranges (kind.BlockComment (Some Outer) true) t more = refl
kind_ranges (kind.BlockComment (Some Inner) true) t more = refl
kind_ranges (kind.BlockComment None false) t more = refl
kind_ranges (kind.BlockComment (Some style) false) t more = refl
kind_ranges kind.Whitespace t more = refl
kind_ranges (kind.Lifetime true) t more = refl
kind_ranges (kind.Lifetime false) t more = refl
kind_ranges (kind.Literal k suffix_start) t more = form_ranges (literal_form k) suffix_start t more
kind_ranges kind.Ident t more = refl
kind_ranges kind.InvalidIdent t more = refl
kind_ranges kind.RawIdent t more = refl
kind_ranges kind.ForcedKeywordIdent t more = refl
kind_ranges kind.UnknownPrefix t more = refl
kind_ranges kind.UnknownPrefixLifetime t more = refl
kind_ranges kind.RawLifetime t more = refl
kind_ranges kind.GuardedStrPrefix t more = refl
kind_ranges kind.Semi t more = refl
kind_ranges kind.Comma t more = refl
kind_ranges kind.Dot t more = refl
kind_ranges kind.OpenParen t more = refl
kind_ranges kind.CloseParen t more = refl
kind_ranges kind.OpenBrace t more = refl
kind_ranges kind.CloseBrace t more = refl
kind_ranges kind.OpenBracket t more = refl
kind_ranges kind.CloseBracket t more = refl
kind_ranges kind.At t more = refl
kind_ranges kind.Pound t more = refl
kind_ranges kind.Tilde t more = refl
kind_ranges kind.Question t more = refl
kind_ranges kind.Colon t more = refl
kind_ranges kind.Dollar t more = refl
kind_ranges kind.Eq t more = refl
kind_ranges kind.Bang t more = refl
kind_ranges kind.Lt t more = refl
kind_ranges kind.Gt t more = refl
kind_ranges kind.Minus t more = refl
kind_ranges kind.And t more = refl
kind_ranges kind.Or t more = refl
kind_ranges kind.Plus t more = refl
kind_ranges kind.Star t more = refl
kind_ranges kind.Slash t more = refl
kind_ranges kind.Caret t more = refl
kind_ranges kind.Percent t more = refl
kind_ranges kind.Unknown t more = refl
kind_ranges kind.Eof t more = refl
