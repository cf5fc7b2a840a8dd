-- What the tokens of some texts show: worked examples.
use Rattle.std.proofs.Common.{◌≡◌, ◌≢◌, ℕ, List, [], ◌∷◌, Bool, true, false, ap, codes, refl}
use Rattle.code_layout.specs.Words.{Word, words_from}
use Rattle.rustc_lexer.specs.declared.token.Token.{Token}
use Rattle.rustc_lexer.specs.declared.token.TokenKind.{TokenKind}
use Rattle.rustc_lexer.specs.declared.token.TokenKind.TheVariants.{Comma, Gt, Whitespace}

-- a token of one byte
abbrev of : TokenKind → Token
of kind = record { kind = kind; len = 1 }

abbrev sign : TokenKind → List ℕ → Bool → Word
sign kind text joined = record { kind = kind; text = text; joined = joined }

-- `>>`: one operator
shift : words_from Whitespace (codes ">>") (of Gt ∷ of Gt ∷ []) ≡ sign Gt (codes ">") false ∷ sign Gt (codes ">") true ∷ []
shift = refl

-- `> >`: two ends of generic arguments
two_ends : words_from Whitespace (codes "> >") (of Gt ∷ of Whitespace ∷ of Gt ∷ []) ≡ sign Gt (codes ">") false ∷ sign Gt (codes ">") false ∷ []
two_ends = refl

-- these are not the same tokens
apart_or_not : sign Gt (codes ">") true ≢ sign Gt (codes ">") false
apart_or_not h = let joined : true ≡ false = ap (λ (w : Word). w.joined) h in absurd (cc joined)

-- `>,` and `> ,` are: a comma is in no operator
comma : words_from Whitespace (codes ">,") (of Gt ∷ of Comma ∷ []) ≡ words_from Whitespace (codes "> ,") (of Gt ∷ of Whitespace ∷ of Comma ∷ [])
comma = refl
