-- Leaves whose kind and text alone show how they are spelled.
use Rattle.std.specs.Prelude.{ℕ, Bool, ◌==◌, ◌&&◌, codes, nat_lt}
use Rattle.std.specs.List.{list_any}
use Rattle.rustc_lexer.specs.Literals.{stands_for_itself}

-- the character is a punct in a text, and no quote
abbrev pub is_mark_char : ℕ → Bool
is_mark_char c = list_any (λ w. c == w) (codes ";,.@#~?:$=!<>-&|+*/^%")

-- an ASCII character that is neither a `"` nor a `\`
abbrev pub is_plain_byte : ℕ → Bool
is_plain_byte b = nat_lt b 128 && stands_for_itself b
