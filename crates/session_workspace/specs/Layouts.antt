-- A text that is laid out. (Of this project.)
use Rattle.std.specs.Prelude.{◌≡◌, ℕ, List}
use Rattle.code_layout.specs.Words.{words_of}

-- a text has the tokens of a printed one
abbrev pub IsLaidOut : (printed laid : List ℕ) → Type 0
IsLaidOut printed laid = words_of laid ≡ words_of printed
