-- The tokens of a text: the text cut into lexemes, from its first character to its last.
use Rattle.std.specs.Prelude.{ℕ, zero, suc, ◌+◌, ◌-◌, Bool, List, [], ◌∷◌, length, take, drop, if◌then◌else◌}
use Rattle.rustc_lexer.specs.Character.{char_at, is, utf8_len}
use Rattle.rustc_lexer.specs.Lexeme.{Lexeme, lexeme}
use Rattle.rustc_lexer.specs.Literals.{hashes}
use Rattle.rustc_lexer.specs.declared.token.Token.{Token}

-- the lexeme as a token of the text that it begins, with its length in bytes
abbrev pub token_of : Lexeme → List ℕ → Token
token_of w cs = record { kind = w.value; len = utf8_len (take w.size cs) }

-- the tokens of what follows `skip` characters: the first lexeme's, and those of what follows it
abbrev pub tokens_after : ℕ → List ℕ → List Token
tokens_after skip [] = []
tokens_after (suc skip) (c ∷ cs) = tokens_after skip cs
tokens_after zero (c ∷ cs) = token_of (lexeme (c ∷ cs)) (c ∷ cs) ∷ tokens_after ((lexeme (c ∷ cs)).size - 1) cs

-- the tokens of a text
abbrev pub tokens_of : List ℕ → List Token
tokens_of cs = tokens_after 0 cs

-- how many characters the first k lexemes of a text have
abbrev pub place : ℕ → List ℕ → ℕ
place zero cs = 0
place (suc k) [] = 0
place (suc k) (c ∷ cs) = (lexeme (c ∷ cs)).size + place k (drop (lexeme (c ∷ cs)).size (c ∷ cs))

-- the text ends in `#`
abbrev pub ends_in_hash : List ℕ → Bool
ends_in_hash cs = is "#" (char_at cs (length cs - 1))

-- how many hashes at the front of `after` go on with a run of hashes at the end of `before`
abbrev pub run_on : List ℕ → List ℕ → ℕ
run_on before after = if ends_in_hash before then (hashes after).size else 0

-- how many characters of `after` the tokens of `before` depend on: the hashes that go on with a
-- run, and two more
abbrev pub look_ahead : List ℕ → List ℕ → ℕ
look_ahead before after = run_on before after + 2

-- how many characters of a text its first k tokens depend on: their own, and those ahead
abbrev pub reach : ℕ → List ℕ → ℕ
reach k cs = place k cs + look_ahead (take (place k cs) cs) (drop (place k cs) cs)
