-- What a layout keeps of a text: its tokens. (The Rust Reference, "Tokens".)
use Rattle.std.specs.Prelude.{ℕ, List, [], ◌∷◌, ◌++◌, Bool, true, false, take, drop, chars, if◌then◌else◌}
use Rattle.rustc_lexer.specs.Lexing.{tokens_of}
use Rattle.rustc_lexer.specs.declared.token.Token.{Token}
use Rattle.rustc_lexer.specs.declared.token.TokenKind.{TokenKind}
use Rattle.rustc_lexer.specs.declared.token.TokenKind.TheVariants.{Whitespace, And, Bang, Caret, Colon, Dot, Eq, Gt, Lt, Minus, Or, Percent, Plus, Slash, Star}

abbrev pub is_white : TokenKind → Bool
is_white Whitespace = true
is_white _ = false

-- the signs that `=` follows in an operator: `==` `!=` `<=` `>=` `+=` `-=` `*=` `/=` `%=` `^=`
-- `&=` `|=` `..=`
abbrev pub takes_equals : TokenKind → Bool
takes_equals Eq = true
takes_equals Bang = true
takes_equals Lt = true
takes_equals Gt = true
takes_equals Plus = true
takes_equals Minus = true
takes_equals Star = true
takes_equals Slash = true
takes_equals Percent = true
takes_equals Caret = true
takes_equals And = true
takes_equals Or = true
takes_equals Dot = true
takes_equals _ = false

-- those that `>` follows: `->` `=>` `>>`
abbrev pub takes_greater : TokenKind → Bool
takes_greater Minus = true
takes_greater Eq = true
takes_greater Gt = true
takes_greater _ = false

-- `<<` `<-`
abbrev pub is_less : TokenKind → Bool
is_less Lt = true
is_less _ = false

-- `&&`
abbrev pub is_and : TokenKind → Bool
is_and And = true
is_and _ = false

-- `||`
abbrev pub is_or : TokenKind → Bool
is_or Or = true
is_or _ = false

-- `::`
abbrev pub is_colon : TokenKind → Bool
is_colon Colon = true
is_colon _ = false

-- `..` `...`
abbrev pub is_dot : TokenKind → Bool
is_dot Dot = true
is_dot _ = false

-- two signs that follow each other in an operator. (The Rust Reference, "Punctuation".)
abbrev pub joins : TokenKind → TokenKind → Bool
joins before Eq = takes_equals before
joins before Gt = takes_greater before
joins before Lt = is_less before
joins before Minus = is_less before
joins before And = is_and before
joins before Or = is_or before
joins before Colon = is_colon before
joins before Dot = is_dot before
joins before _ = false

-- a token: its kind, its text, and whether it goes on with an operator of the token right before it
pub record Word : Type 0 where
  pub kind : TokenKind
  pub text : List ℕ
  pub joined : Bool

-- what a token shows behind one of another kind: white space shows nothing
abbrev pub shown : (before kind : TokenKind) → List ℕ → List Word
shown before kind text =
    if is_white kind then []
    else record { kind = kind; text = text; joined = joins before kind } ∷ []

-- what these tokens of a text show behind one of this kind
abbrev pub words_from : TokenKind → List ℕ → List Token → List Word
words_from before rest [] = []
words_from before rest (t ∷ ts) =
    shown before t.kind (take t.len rest) ++ words_from t.kind (drop t.len rest) ts

-- the tokens of a text but white space
abbrev pub words_of : List ℕ → List Word
words_of text = words_from Whitespace text (tokens_of (chars text))
