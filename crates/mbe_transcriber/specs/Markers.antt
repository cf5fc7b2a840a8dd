-- What a caller decides: the spans of a transcriber's tokens in the output, and what a name is.
use Rattle.std.specs.Prelude.{◌≡◌, ℕ, Bool, List, chars}
use Rattle.rustc_lexer.specs.Character.{is_ident}
use Rattle.tt_data.specs.declared.span.Span.{Span}

-- a text is one identifier
abbrev pub is_name : List ℕ → Bool
is_name text = is_ident (chars text)

-- the answers of a closure about spans are those of a function
abbrev pub IsMarkedBy : (Span → Span → Type 0) → (Span → Span) → Type 0
IsMarkedBy answered mark = (s t : Span) → answered s t → t ≡ mark s
