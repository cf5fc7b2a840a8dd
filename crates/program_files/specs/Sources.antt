-- What of a file is read as code. (The Rust Reference, "Input format".)
use Rattle.std.specs.Prelude.{◌≡◌, ◌≢◌, ℕ, ◌+◌, List, [], ◌∷◌, ◌++◌, drop, replicate}
use Rattle.std.specs.Option.{unwrap_or}
use Rattle.rustc_lexer.specs.Shebang.{shebang}

-- the byte order mark, U+FEFF, in UTF-8
abbrev pub mark : List ℕ
mark = 239 ∷ 187 ∷ 191 ∷ []

-- the length of a `#!` line at the front, in bytes, without its end
abbrev pub line_length : List ℕ → ℕ
line_length text = unwrap_or (shebang text) 0

-- the front of a text that is no code has n bytes: those of a byte order mark and of the `#!` line
-- after it
pub record HasFront (text : List ℕ) (n : ℕ) : Type 0 where
  pub marked : (rest : List ℕ) → text ≡ mark ++ rest → n ≡ 3 + line_length rest
  pub plain : ((rest : List ℕ) → text ≢ mark ++ rest) → n ≡ line_length text

-- a text has spaces in the place of that front, and is as it was behind it
abbrev pub IsBlanked : List ℕ → List ℕ → Type 0
IsBlanked old new = (n : ℕ) × HasFront old n × (new ≡ replicate n 32 ++ drop n old)
