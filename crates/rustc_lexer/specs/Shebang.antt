-- The first line of a script. A text is the list of its bytes.
use Rattle.std.specs.Prelude.{ℕ, ◌+◌, Bool, true, false, not, ◌&&◌, List, [], ◌∷◌, length, drop, slice_get, chars, Option, Some, None, if◌then◌else◌}
use Rattle.std.specs.Option.{unwrap_or}
use Rattle.std.specs.Str.Lines.{lines}
use Rattle.rustc_lexer.specs.Character.{begins}
use Rattle.rustc_lexer.specs.Lexing.{tokens_of}
use Rattle.rustc_lexer.specs.declared.token.Token.{Token}
use Rattle.rustc_lexer.specs.declared.token.TokenKind.{TokenKind}
use Rattle.rustc_lexer.specs.declared.token.TokenKind.TheVariants as kind

-- white space, or a comment that is no doc comment
abbrev pub is_blank : TokenKind → Bool
is_blank kind.Whitespace = true
is_blank (kind.LineComment None) = true
is_blank (kind.BlockComment None terminated) = true
is_blank _ = false

abbrev pub is_open_bracket : TokenKind → Bool
is_open_bracket kind.OpenBracket = true
is_open_bracket _ = false

-- the first of the tokens that are not trivia is `[`
abbrev pub begins_with_bracket : List Token → Bool
begins_with_bracket [] = false
begins_with_bracket (t ∷ ts) = if is_blank t.kind then begins_with_bracket ts else is_open_bracket t.kind

-- the first line of a text, without its end
abbrev pub first_line : List ℕ → List ℕ
first_line text = unwrap_or (slice_get (lines text) 0) []

-- the length of a `#!` line at the front, in bytes, without its end; `#![a]` is none
abbrev pub shebang : List ℕ → Option ℕ
shebang text =
    let rest : List ℕ = drop 2 text in
    if begins "#!" text && not (begins_with_bracket (tokens_of (chars rest))) then Some (2 + length (first_line rest)) else None
