-- The tokens at a byte offset of a text.
use Rattle.std.specs.Prelude.{◌≡◌, ◌≤◌, ◌+◌, ℕ, List, take, drop, chars, IsUtf8, IsCharBoundary}
use Rattle.std.specs.List.{slice_range}
use Rattle.rustc_lexer.specs.Lexeme.{lexeme}
use Rattle.rustc_lexer.specs.Lexing.{tokens_of}
use Rattle.rustc_lexer.specs.declared.token.Token.{Token}
use Rattle.rustc_lexer.specs.declared.token.TokenKind.TheVariants.{Eof}

-- offset `at` is a character boundary, and these are the tokens from there on
pub record AreTokensFrom (text : List ℕ) (at : ℕ) (ts : List Token) : Type 0 where
  pub boundary : IsCharBoundary text at
  pub tokens : ts ≡ tokens_of (chars (drop at text))

-- the token is at offset `at`: it has at least one byte, it begins and ends at character
-- boundaries inside the text, its bytes are the first lexeme of the text from there on, and its
-- kind is that lexeme's and never `Eof`
pub record IsTokenAt (text : List ℕ) (at : ℕ) (t : Token) : Type 0 where
  pub positive : 1 ≤ t.len
  pub start : IsCharBoundary text at
  pub stop : IsCharBoundary text (at + t.len)
  pub utf8 : IsUtf8 (slice_range text at (at + t.len))
  pub word : chars (slice_range text at (at + t.len)) ≡ take (lexeme (chars (drop at text))).size (chars (drop at text))
  pub kind : t.kind ≡ (lexeme (chars (drop at text))).value
  pub not_eof : ¬ (t.kind ≡ Eof)
