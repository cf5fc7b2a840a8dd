-- What the iterator of the tokens has left to give.
use Rattle.std.specs.Prelude.{List, chars}
use Rattle.rustc_lexer.specs.Lexing.{tokens_of}
use Rattle.rustc_lexer.specs.declared.token.Token.{Token}
use Rattle.rustc_lexer.specs.declared.tokens.Tokens.{Tokens}

-- the tokens of the text that is left
abbrev pub tokens_left : Tokens → List Token
tokens_left s = tokens_of (chars s.rest.now)
